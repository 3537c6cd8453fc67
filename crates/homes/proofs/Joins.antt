-- One pass over a rising list and a rising table gives each home its code.
use Prim.Native.Nat.{ℕ, ◌+◌, ◌*◌, ◌≤◌, ◌<◌}
use native.Mathlib.Omega.{arith}
use mathlib.Core.Path.{◌≡◌, refl, sym, ap, ap₂, ◌∙◌}
use mathlib.Core.Bool.{Bool, true, false, ◌&&◌, not, cond}
use mathlib.Core.List.{List, [], ◌∷◌}
use lib.Dec.{leb, ltb, eqb}
use lib.ListN.{length}
use borrow.Author.Tests.{leb-true, le-leb, ltb-true, ltb-false, ne_eqb}
use Rattle.logic.proofs.Basics.{clash}
use Rattle.logic.proofs.Results.{both_true, true_both}
use Rattle.homes.specs.Homes.{most_homes, most_rows, no_survey, rising, rows, formed, survey_code, joined}

-- ---- the pass: rows of lower homes are passed over, and then the row that stands there decides

unfoldable pub beyond : ℕ → List ℕ → List ℕ
beyond h [] = []
beyond h (x ∷ []) = x ∷ []
beyond h (x ∷ c ∷ t) = cond (ltb x h) (beyond h t) (x ∷ c ∷ t)

-- the code of the first row, if it is of this home
unfoldable pub here : ℕ → List ℕ → ℕ
here h [] = no_survey
here h (x ∷ []) = no_survey
here h (x ∷ c ∷ t) = cond (eqb x h) c no_survey

unfoldable pub walked : (hs t : List ℕ) → List ℕ
walked [] t = []
walked (h ∷ hs) t = h ∷ here h (beyond h t) ∷ walked hs (beyond h t)

-- ---- what a form that holds tells

pub record RowFacts (least h c : ℕ) (t : List ℕ) : Type 0 where
  pub low : least ≤ h
  pub code : eqb c no_survey ≡ false
  pub rest : rows (h + 1) t ≡ true

pub row_facts : (least h c : ℕ) (t : List ℕ) → rows least (h ∷ c ∷ t) ≡ true → RowFacts least h c t
unfolding rows
row_facts least h c t e =
    let a = both_true (leb least h && not (eqb c no_survey)) (rows (h + 1) t) e in
    let b = both_true (leb least h) (not (eqb c no_survey)) a.0 in
    record { low = leb-true least h b.0; code = even (eqb c no_survey) b.1; rest = a.1 }
  where
    even : (b : Bool) → not b ≡ true → b ≡ false
    even true q = sym q
    even false q = refl

pub record HomeFacts (least h : ℕ) (hs : List ℕ) : Type 0 where
  pub low : least ≤ h
  pub rest : rising (h + 1) hs ≡ true

pub home_facts : (least h : ℕ) (hs : List ℕ) → rising least (h ∷ hs) ≡ true → HomeFacts least h hs
unfolding rising
home_facts least h hs e = let a = both_true (leb least h) (rising (h + 1) hs) e in record { low = leb-true least h a.0; rest = a.1 }

-- one word alone is no row
pub odd : (least h : ℕ) → rows least (h ∷ []) ≡ true → ⊥
unfolding rows
odd least h e = clash (cc)

pub rows_low : (least low : ℕ) (t : List ℕ) → low ≤ least → rows least t ≡ true → rows low t ≡ true
unfolding rows
rows_low least low [] l e = refl
rows_low least low (h ∷ []) l e = e
rows_low least low (h ∷ c ∷ t) l e =
    let f = row_facts least h c t e in
    true_both (true_both (le-leb low h (omega (arith, f.low))) (ap not f.code)) f.rest

-- ---- rows that are passed over

-- a row of another home
code_other : (x c k : ℕ) (t : List ℕ) → (x ≡ k → ⊥) → survey_code k (x ∷ c ∷ t) ≡ survey_code k t
unfolding survey_code
code_other x c k t n = ap (λ (b : Bool). cond b c (survey_code k t)) (ne_eqb x k n)

over : (h k x c : ℕ) (t : List ℕ) (b : Bool) → h ≤ k → ltb x h ≡ b → survey_code k (beyond h t) ≡ survey_code k t →
    survey_code k (cond b (beyond h t) (x ∷ c ∷ t)) ≡ survey_code k (x ∷ c ∷ t)
over h k x c t true l e i = let s = ltb-true x h e in i ∙ sym (code_other x c k t (λ q. omega arith))
over h k x c t false l e i = refl

code_beyond : (h k : ℕ) (t : List ℕ) → h ≤ k → survey_code k (beyond h t) ≡ survey_code k t
unfolding beyond
code_beyond h k [] l = refl
code_beyond h k (x ∷ []) l = refl
code_beyond h k (x ∷ c ∷ t) l = over h k x c t (ltb x h) l refl (code_beyond h k t l)

rows_over : (h x c : ℕ) (t : List ℕ) (b : Bool) → rows 0 (x ∷ c ∷ t) ≡ true → rows 0 (beyond h t) ≡ true →
    rows 0 (cond b (beyond h t) (x ∷ c ∷ t)) ≡ true
rows_over h x c t true e i = i
rows_over h x c t false e i = e

rows_beyond : (h : ℕ) (t : List ℕ) → rows 0 t ≡ true → rows 0 (beyond h t) ≡ true
unfolding beyond
rows_beyond h [] e = e
rows_beyond h (x ∷ []) e = e
rows_beyond h (x ∷ c ∷ t) e = rows_over h x c t (ltb x h) e (rows_beyond h t (rows_low (x + 1) 0 t (omega arith) (row_facts 0 x c t e).rest))

-- ---- the row that stands there

pub code_none : (h least : ℕ) (t : List ℕ) → rows least t ≡ true → h < least → survey_code h t ≡ no_survey
unfolding survey_code
code_none h least [] e l = refl
code_none h least (x ∷ []) e l = refl
code_none h least (x ∷ c ∷ t) e l =
    let f = row_facts least x c t e in
    code_other x c h t (λ q. omega (arith, f.low)) ∙ code_none h (x + 1) t f.rest (omega (arith, f.low))

here_row : (h x c : ℕ) (t : List ℕ) (b : Bool) → rows (x + 1) t ≡ true → h ≤ x → eqb x h ≡ b → cond b c no_survey ≡ cond b c (survey_code h t)
here_row h x c t true e l q = refl
here_row h x c t false e l q = sym (code_none h (x + 1) t e (omega arith))

here_front : (h x c : ℕ) (t : List ℕ) (b : Bool) → rows 0 (x ∷ c ∷ t) ≡ true → ltb x h ≡ b → here h (beyond h t) ≡ survey_code h (beyond h t) →
    here h (cond b (beyond h t) (x ∷ c ∷ t)) ≡ survey_code h (cond b (beyond h t) (x ∷ c ∷ t))
unfolding here survey_code
here_front h x c t true e q i = i
here_front h x c t false e q i = here_row h x c t (eqb x h) (row_facts 0 x c t e).rest (ltb-false x h q) refl

here_beyond : (h : ℕ) (t : List ℕ) → rows 0 t ≡ true → here h (beyond h t) ≡ survey_code h (beyond h t)
unfolding here survey_code beyond
here_beyond h [] e = refl
here_beyond h (x ∷ []) e = refl
here_beyond h (x ∷ c ∷ t) e = here_front h x c t (ltb x h) e refl (here_beyond h t (rows_low (x + 1) 0 t (omega arith) (row_facts 0 x c t e).rest))

-- ---- the whole walk

joined_beyond : (h least : ℕ) (hs t : List ℕ) → rising least hs ≡ true → h ≤ least → joined hs (beyond h t) ≡ joined hs t
unfolding joined
joined_beyond h least [] t e l = refl
joined_beyond h least (k ∷ hs) t e l =
    let f = home_facts least k hs e in
    ap₂ (λ (c : ℕ) (m : List ℕ). k ∷ c ∷ m) (code_beyond h k t (omega (arith, f.low))) (joined_beyond h (k + 1) hs t f.rest (omega (arith, f.low)))

pub walked_joined : (least : ℕ) (hs t : List ℕ) → rising least hs ≡ true → rows 0 t ≡ true → walked hs t ≡ joined hs t
unfolding walked joined
walked_joined least [] t e r = refl
walked_joined least (h ∷ hs) t e r =
    let f = home_facts least h hs e in
    ap₂ (λ (c : ℕ) (m : List ℕ). h ∷ c ∷ m)
    (here_beyond h t r ∙ code_beyond h h t (omega arith))
    (walked_joined (h + 1) hs (beyond h t) f.rest (rows_beyond h t r) ∙ joined_beyond h (h + 1) hs t f.rest (omega arith))

-- ---- the form taken apart, and the step

pub record Formed (hs t : List ℕ) (room : ℕ) : Type 0 where
  pub homes : length hs ≤ most_homes
  pub rows_most : length t ≤ 2 * most_rows
  pub fits : 2 * length hs ≤ room
  pub rise : rising 0 hs ≡ true
  pub table : rows 0 t ≡ true

pub formed_facts : (hs t : List ℕ) (room : ℕ) → formed hs t room ≡ true → Formed hs t room
unfolding formed
formed_facts hs t room e =
    let A : Bool = leb (length hs) most_homes in
    let B : Bool = leb (length t) (2 * most_rows) in
    let C : Bool = leb (2 * length hs) room in
    let a = both_true (A && B && C && rising 0 hs) (rows 0 t) e in
    let b = both_true (A && B && C) (rising 0 hs) a.0 in
    let c = both_true (A && B) C b.0 in
    let d = both_true A B c.0 in
    record {
      homes = leb-true (length hs) most_homes d.0;
      rows_most = leb-true (length t) (2 * most_rows) d.1;
      fits = leb-true (2 * length hs) room c.1;
      rise = b.1;
      table = a.1;
    }
