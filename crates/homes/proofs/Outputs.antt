-- What the writing step puts out is right, and nothing else is: no home falls out.
use Prim.Native.Nat.{ℕ, zero, suc, ◌+◌, ◌*◌, ◌-◌, ◌/◌, ◌≤◌, ◌<◌}
use native.Mathlib.Omega.{arith}
use mathlib.Core.Path.{◌≡◌, refl, sym, ap, subst, ◌∙◌}
use mathlib.Core.Logic.{◌≢◌, ◌↔◌}
use mathlib.Core.Bool.{Bool, true, false, cond}
use mathlib.Core.List.{List, [], ◌∷◌, ◌++◌, append-nil}
use lib.Dec.{leb, eqb}
use lib.ListN.{length, take, drop, get_or, drop_of_length-le, get_or-append}
use lib.Seq.{get_or-append-add, get_or-drop, ext_get_or}
use borrow.Author.Tests.{eqb-true, eqb-false, eq-eqb, ne_eqb, leb-true, leb-false}
use Rattle.words.specs.Place.{written_at}
use Rattle.words.proofs.Lists.{length_written, written_front}
use Rattle.homes.specs.Homes.{no_survey, rows, survey_code, joined}
use Rattle.homes.specs.Right.{Row, InForm, Right, with_code, without_code, WritingStep}
use Rattle.homes.proofs.Joins.{row_facts, odd, formed_facts}
use Rattle.homes.proofs.InForm.{pair_behind, next_one, rows_least, rows_code, in_form}

-- ---- the words of the join

pub joined_length : (hs t : List ℕ) → length (joined hs t) ≡ 2 * length hs
unfolding joined
joined_length [] t = refl
joined_length (h ∷ hs) t = let i = joined_length hs t in omega arith

joined_home : (hs t : List ℕ) (k : ℕ) → k < length hs → get_or (joined hs t) (2 * k) 0 ≡ get_or hs k 0
unfolding joined
joined_home [] t k l = absurd (omega arith)
joined_home (h ∷ hs) t zero l = refl
joined_home (h ∷ hs) t (suc k) l = pair_behind (joined hs t) h (survey_code h t) k ∙ joined_home hs t k (omega arith)

joined_code : (hs t : List ℕ) (k : ℕ) → k < length hs → get_or (joined hs t) (2 * k + 1) 0 ≡ survey_code (get_or hs k 0) t
unfolding joined
joined_code [] t k l = absurd (omega arith)
joined_code (h ∷ hs) t zero l = refl
joined_code (h ∷ hs) t (suc k) l = next_one (joined hs t) h (survey_code h t) k ∙ joined_code hs t k (omega arith)

-- ---- the table's rows

-- a row that the table has is found
row_found : (least : ℕ) (t : List ℕ) (h j : ℕ) → rows least t ≡ true → 2 * j + 1 < length t → get_or t (2 * j) 0 ≡ h → survey_code h t ≡ get_or t (2 * j + 1) 0
unfolding survey_code
row_found least [] h j e l q = absurd (omega arith)
row_found least (x ∷ []) h j e l q = absurd (odd least x e)
row_found least (x ∷ c ∷ t) h zero e l q = ap (λ (b : Bool). cond b c (survey_code h t)) (eq-eqb x h q)
row_found least (x ∷ c ∷ t) h (suc j) e l q =
    let f = row_facts least x c t e in
    let p : get_or t (2 * j) 0 ≡ h = sym (pair_behind t x c j) ∙ q in
    let low : x + 1 ≤ get_or t (2 * j) 0 = rows_least (x + 1) t j f.rest (omega arith) in
    ap (λ (b : Bool). cond b c (survey_code h t)) (ne_eqb x h (λ r. omega arith)) ∙ row_found (x + 1) t h j f.rest (omega arith) p ∙ sym (next_one t x c j)

-- a code that is found is a row's
behind : (x c h d : ℕ) (t : List ℕ) → Row t h d → Row (x ∷ c ∷ t) h d
behind x c h d t r =
    let i = r.inside in
    record { index = suc r.index; inside = omega arith; home = pair_behind t x c r.index ∙ r.home; code = next_one t x c r.index ∙ r.code }

first_row : (x c h : ℕ) (t : List ℕ) (b : Bool) → eqb x h ≡ b → (cond b c (survey_code h t) ≢ no_survey) →
    (survey_code h t ≢ no_survey → Row t h (survey_code h t)) → Row (x ∷ c ∷ t) h (cond b c (survey_code h t))
first_row x c h t true e n i = record { index = 0; inside = omega arith; home = eqb-true x h e; code = refl }
first_row x c h t false e n i = behind x c h (survey_code h t) t (i n)

row_sought : (t : List ℕ) (h : ℕ) → survey_code h t ≢ no_survey → Row t h (survey_code h t)
unfolding survey_code
row_sought [] h n = absurd (n refl)
row_sought (x ∷ []) h n = absurd (n refl)
row_sought (x ∷ c ∷ t) h n = first_row x c h t (eqb x h) refl n (row_sought t h)

module _ (t : List ℕ) (h : ℕ) (table : rows 0 t ≡ true) where
  has : (c : ℕ) → Row t h c → survey_code h t ≡ c
  has c r = row_found 0 t h r.index table r.inside r.home ∙ r.code

  code_exactly : (c : ℕ) → c ≢ no_survey → (survey_code h t ≡ c) ↔ Row t h c
  code_exactly c n = (λ e. subst (Row t h) e (row_sought t h (λ q. n (sym e ∙ q))), has c)

  none_exactly : (survey_code h t ≡ no_survey) ↔ ((c : ℕ) → Row t h c → ⊥)
  none_exactly = (λ e c r. rows_code 0 t r.index table r.inside (r.code ∙ sym (has c r) ∙ e), λ f. go f (eqb (survey_code h t) no_survey) refl)
    where
      go : ((c : ℕ) → Row t h c → ⊥) → (b : Bool) → eqb (survey_code h t) no_survey ≡ b → survey_code h t ≡ no_survey
      go f true e = eqb-true (survey_code h t) no_survey e
      go f false e = absurd (f (survey_code h t) (row_sought t h (eqb-false (survey_code h t) no_survey e)))

-- ---- the output that the definition gives is right

module _ (hs t old : List ℕ) (form : InForm hs t (length old)) where
  abbrev words : List ℕ
  words = joined hs t

  abbrev out : List ℕ
  out = written_at old 0 words

  table : rows 0 t ≡ true
  table = (formed_facts hs t (length old) ((in_form hs t (length old)).1 form)).table

  -- a word of the join in the output
  word : (k : ℕ) → k < 2 * length hs → get_or out k 0 ≡ get_or words k 0
  word k l = get_or-append words (drop (0 + length words) old) 0 k (omega (arith, joined_length hs t))

  code_word : (k : ℕ) → k < length hs → get_or out (2 * k + 1) 0 ≡ survey_code (get_or hs k 0) t
  code_word k l = word (2 * k + 1) (omega arith) ∙ joined_code hs t k l

  -- and one behind them
  past_word : (k : ℕ) → 2 * length hs ≤ k → get_or out k 0 ≡ get_or old k 0
  past_word k l =
      let n : length words + (k - length words) ≡ k = omega (arith, joined_length hs t) in
      let m : 0 + length words + (k - length words) ≡ k = omega (arith, joined_length hs t) in
      ap (λ (i : ℕ). get_or out i 0) (sym n) ∙ get_or-append-add words (drop (0 + length words) old) (k - length words) 0
      ∙ get_or-drop (0 + length words) old (k - length words) 0 ∙ ap (λ (i : ℕ). get_or old i 0) m

  out_right : Right hs t old out
  out_right = record {
    size = length_written old 0 words (omega (arith, joined_length hs t, form.fits));
    home = λ k l. word (2 * k) (omega arith) ∙ joined_home hs t k l;
    code = λ k c l n. let x = code_exactly t (get_or hs k 0) table c n in (λ e. x.0 (sym (code_word k l) ∙ e), λ r. code_word k l ∙ x.1 r);
    none = λ k l. let x = none_exactly t (get_or hs k 0) table in (λ e. x.0 (sym (code_word k l) ∙ e), λ r. code_word k l ∙ x.1 r);
    past = past_word;
  }

-- ---- and no other output is

module _ (hs t old new new' : List ℕ) (r : Right hs t old new) (r' : Right hs t old new') where
  same_code : (k : ℕ) → k < length hs → get_or new (2 * k + 1) 0 ≡ get_or new' (2 * k + 1) 0
  same_code k l = go (eqb (get_or new (2 * k + 1) 0) no_survey) refl
    where
      go : (b : Bool) → eqb (get_or new (2 * k + 1) 0) no_survey ≡ b → get_or new (2 * k + 1) 0 ≡ get_or new' (2 * k + 1) 0
      go true e = let z = eqb-true (get_or new (2 * k + 1) 0) no_survey e in z ∙ sym ((r'.none k l).1 ((r.none k l).0 z))
      go false e =
          let n = eqb-false (get_or new (2 * k + 1) 0) no_survey e in
          sym ((r'.code k (get_or new (2 * k + 1) 0) l n).1 ((r.code k (get_or new (2 * k + 1) 0) l n).0 refl))

  -- a word of the output is a home, a code, or as it was
  same_word : (i : ℕ) → get_or new i 0 ≡ get_or new' i 0
  same_word i = go (leb (2 * length hs) i) refl (eqb (2 * (i / 2)) i) refl
    where
      go : (past : Bool) → leb (2 * length hs) i ≡ past → (even : Bool) → eqb (2 * (i / 2)) i ≡ even → get_or new i 0 ≡ get_or new' i 0
      go true p even e = let l = leb-true (2 * length hs) i p in r.past i l ∙ sym (r'.past i l)
      go false p true e =
          let l = leb-false (2 * length hs) i p in
          let n = eqb-true (2 * (i / 2)) i e in
          let h : get_or new (2 * (i / 2)) 0 ≡ get_or new' (2 * (i / 2)) 0 = r.home (i / 2) (omega arith) ∙ sym (r'.home (i / 2) (omega arith)) in
          ap (λ (k : ℕ). get_or new k 0) (sym n) ∙ h ∙ ap (λ (k : ℕ). get_or new' k 0) n
      go false p false e =
          let l = leb-false (2 * length hs) i p in
          let o = eqb-false (2 * (i / 2)) i e in
          let n : 2 * (i / 2) + 1 ≡ i = omega arith in
          ap (λ (k : ℕ). get_or new k 0) (sym n) ∙ same_code (i / 2) (omega arith) ∙ ap (λ (k : ℕ). get_or new' k 0) n

  one_right : new ≡ new'
  one_right = ext_get_or 0 new new' (r.size ∙ sym r'.size) (λ i l. same_word i)

pub output_right : (hs t old new : List ℕ) → InForm hs t (length old) → (new ≡ written_at old 0 (joined hs t)) ↔ Right hs t old new
output_right hs t old new form =
    let w = out_right hs t old form in
    (λ e. subst (Right hs t old) (sym e) w, λ r. one_right hs t old new (written_at old 0 (joined hs t)) r w)

-- ---- the words alone, two a home

module _ (hs t : List ℕ) (room : ℕ) (form : InForm hs t room) where
  -- an output of as many words as are written is in form too
  words_form : (xs : List ℕ) → length xs ≡ 2 * length hs → InForm hs t (length xs)
  words_form xs e = record { homes = form.homes; rise = form.rise; rows_most = form.rows_most; table = form.table; fits = omega arith }

  -- all of it is written
  all_written : (xs : List ℕ) → length xs ≡ 2 * length hs → written_at xs 0 (joined hs t) ≡ joined hs t
  all_written xs e =
      ap (λ (ws : List ℕ). joined hs t ++ ws) (drop_of_length-le xs {i = 0 + length (joined hs t)} (omega (arith, joined_length hs t)))
      ∙ append-nil (joined hs t)

  pub joined_right : Right hs t (joined hs t) (joined hs t)
  joined_right =
      let e = joined_length hs t in
      (output_right hs t (joined hs t) (joined hs t) (words_form (joined hs t) e)).0 (sym (all_written (joined hs t) e))

  pub right_joined : (xs : List ℕ) → length xs ≡ 2 * length hs → Right hs t xs xs → xs ≡ joined hs t
  right_joined xs e r = (output_right hs t xs xs (words_form xs e)).1 r ∙ all_written xs e

-- ---- "Homes listed = homes with a code + homes without"

one_of : (b : Bool) → cond b 0 1 + cond b 1 0 ≡ 1
one_of true = refl
one_of false = refl

counted : (hs t : List ℕ) → length hs ≡ with_code (joined hs t) + without_code (joined hs t)
unfolding joined with_code without_code
counted [] t = refl
counted (h ∷ hs) t =
    let i = counted hs t in
    let p = one_of (eqb (survey_code h t) no_survey) in
    omega arith

-- counted on the words of a right output
homes_listed : (hs t old new : List ℕ) → InForm hs t (length old) → Right hs t old new →
    length hs ≡ with_code (take (2 * length hs) new) + without_code (take (2 * length hs) new)
homes_listed hs t old new form r =
    let e : take (2 * length hs) new ≡ joined hs t =
    written_front old new (joined hs t) (2 * length hs) ((output_right hs t old new form).1 r) (sym (joined_length hs t)) in
    counted hs t ∙ ap (λ (ws : List ℕ). with_code ws + without_code ws) (sym e)

pub writing_step : WritingStep
writing_step = record { form = in_form; right = output_right; counted = homes_listed }
