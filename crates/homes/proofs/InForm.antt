-- The test of the form passes exactly what is in form.
use Prim.Native.Nat.{ℕ, zero, suc, ◌+◌, ◌*◌, ◌≤◌, ◌<◌}
use native.Mathlib.Omega.{arith}
use mathlib.Core.Path.{◌≡◌, refl, sym, ap, ◌∙◌}
use mathlib.Core.Logic.{◌≢◌, ◌↔◌}
use mathlib.Core.Bool.{true, not}
use mathlib.Core.List.{List, [], ◌∷◌}
use lib.ListN.{length, get_or}
use borrow.Author.Tests.{le-leb, ne_eqb, eqb-false}
use Rattle.logic.proofs.Results.{true_both}
use Rattle.homes.specs.Homes.{most_homes, most_rows, no_survey, rising, rows, formed}
use Rattle.homes.specs.Right.{Rising, Table, InForm}
use Rattle.homes.proofs.Joins.{home_facts, row_facts, odd, formed_facts}

-- ---- the place of a pair of words behind the first

pub pair_behind : (ws : List ℕ) (x y k : ℕ) → get_or (x ∷ y ∷ ws) (2 * suc k) 0 ≡ get_or ws (2 * k) 0
pair_behind ws x y k = let e : 2 * suc k ≡ suc (suc (2 * k)) = omega arith in ap (λ (n : ℕ). get_or (x ∷ y ∷ ws) n 0) e

pub next_one : (ws : List ℕ) (x y k : ℕ) → get_or (x ∷ y ∷ ws) (2 * suc k + 1) 0 ≡ get_or ws (2 * k + 1) 0
next_one ws x y k = let e : 2 * suc k + 1 ≡ suc (suc (2 * k + 1)) = omega arith in ap (λ (n : ℕ). get_or (x ∷ y ∷ ws) n 0) e

-- ---- the list

homes_least : (least : ℕ) (hs : List ℕ) (k : ℕ) → rising least hs ≡ true → k < length hs → least ≤ get_or hs k 0
homes_least least [] k e l = absurd (omega arith)
homes_least least (h ∷ hs) zero e l = (home_facts least h hs e).low
homes_least least (h ∷ hs) (suc k) e l = let f = home_facts least h hs e in omega (arith, f.low, homes_least (h + 1) hs k f.rest (omega arith))

pub rises : (least : ℕ) (hs : List ℕ) → rising least hs ≡ true → Rising hs
rises least [] e i j l m = absurd (omega arith)
rises least (h ∷ hs) e i zero l m = absurd (omega arith)
rises least (h ∷ hs) e zero (suc j) l m = omega (arith, homes_least (h + 1) hs j (home_facts least h hs e).rest (omega arith))
rises least (h ∷ hs) e (suc i) (suc j) l m = rises (h + 1) hs (home_facts least h hs e).rest i j (omega arith) (omega arith)

pub rising_so : (least : ℕ) (hs : List ℕ) → ((k : ℕ) → k < length hs → least ≤ get_or hs k 0) → Rising hs → rising least hs ≡ true
unfolding rising
rising_so least [] low r = refl
rising_so least (h ∷ hs) low r =
    true_both (le-leb least h (low 0 (omega arith)))
    (rising_so (h + 1) hs (λ k l. omega (arith, r 0 (suc k) (omega arith) (omega arith))) (λ i j l m. r (suc i) (suc j) (omega arith) (omega arith)))

-- ---- the table

pub rows_least : (least : ℕ) (t : List ℕ) (j : ℕ) → rows least t ≡ true → 2 * j + 1 < length t → least ≤ get_or t (2 * j) 0
rows_least least [] j e l = absurd (omega arith)
rows_least least (x ∷ []) j e l = absurd (odd least x e)
rows_least least (x ∷ c ∷ t) zero e l = (row_facts least x c t e).low
rows_least least (x ∷ c ∷ t) (suc j) e l =
    let f = row_facts least x c t e in
    omega (arith, f.low, rows_least (x + 1) t j f.rest (omega arith), pair_behind t x c j)

pub rows_code : (least : ℕ) (t : List ℕ) (j : ℕ) → rows least t ≡ true → 2 * j + 1 < length t → get_or t (2 * j + 1) 0 ≢ no_survey
rows_code least [] j e l q = absurd (omega arith)
rows_code least (x ∷ []) j e l q = absurd (odd least x e)
rows_code least (x ∷ c ∷ t) zero e l q = eqb-false c no_survey (row_facts least x c t e).code q
rows_code least (x ∷ c ∷ t) (suc j) e l q = rows_code (x + 1) t j (row_facts least x c t e).rest (omega arith) (sym (next_one t x c j) ∙ q)

record Pairs (t : List ℕ) : Type 0 where
  pub count : ℕ
  pub whole : length t ≡ 2 * count

pairs : (least : ℕ) (t : List ℕ) → rows least t ≡ true → Pairs t
pairs least [] e = record { count = 0; whole = refl }
pairs least (h ∷ []) e = absurd (odd least h e)
pairs least (h ∷ c ∷ t) e = let i = pairs (h + 1) t (row_facts least h c t e).rest in record { count = suc i.count; whole = omega (arith, i.whole) }

rows_rise : (least : ℕ) (t : List ℕ) → rows least t ≡ true → (i j : ℕ) → i < j → 2 * j + 1 < length t → get_or t (2 * i) 0 < get_or t (2 * j) 0
rows_rise least [] e i j l m = absurd (omega arith)
rows_rise least (h ∷ []) e i j l m = absurd (omega arith)
rows_rise least (h ∷ c ∷ t) e i zero l m = absurd (omega arith)
rows_rise least (h ∷ c ∷ t) e zero (suc j) l m = omega (arith, rows_least (h + 1) t j (row_facts least h c t e).rest (omega arith), pair_behind t h c j)
rows_rise least (h ∷ c ∷ t) e (suc i) (suc j) l m =
    omega (arith, rows_rise (h + 1) t (row_facts least h c t e).rest i j (omega arith) (omega arith), pair_behind t h c i, pair_behind t h c j)

pub is_table : (t : List ℕ) → rows 0 t ≡ true → Table t
is_table t e =
    let p = pairs 0 t e in
    let w = p.whole in
    record { count = p.count; whole = w; rise = λ i j l m. rows_rise 0 t e i j l (omega arith); codes = λ i l. rows_code 0 t i e (omega arith) }

pub rows_so : (least : ℕ) (t : List ℕ) (n : ℕ) → length t ≡ 2 * n → ((k : ℕ) → k < n → least ≤ get_or t (2 * k) 0) →
    ((i j : ℕ) → i < j → j < n → get_or t (2 * i) 0 < get_or t (2 * j) 0) → ((i : ℕ) → i < n → get_or t (2 * i + 1) 0 ≢ no_survey) → rows least t ≡ true
unfolding rows
rows_so least [] n w low r c = refl
rows_so least (h ∷ []) n w low r c = absurd (omega arith)
rows_so least (h ∷ d ∷ t) zero w low r c = absurd (omega arith)
rows_so least (h ∷ d ∷ t) (suc n) w low r c =
    true_both (true_both (le-leb least h (low 0 (omega arith))) (ap not (ne_eqb d no_survey (c 0 (omega arith)))))
    (rows_so (h + 1) t n (omega arith) (λ k l. omega (arith, r 0 (suc k) (omega arith) (omega arith), pair_behind t h d k))
    (λ i j l m. omega (arith, r (suc i) (suc j) (omega arith) (omega arith), pair_behind t h d i, pair_behind t h d j))
    (λ i l q. c (suc i) (omega arith) (next_one t h d i ∙ q)))

-- ---- the whole form

pub in_form : (hs t : List ℕ) (room : ℕ) → (formed hs t room ≡ true) ↔ InForm hs t room
unfolding formed
in_form hs t room = (
  λ e.
      let f = formed_facts hs t room e in
      record { homes = f.homes; rise = rises 0 hs f.rise; rows_most = f.rows_most; table = is_table t f.table; fits = f.fits },
  λ f.
      true_both (true_both (true_both (true_both (le-leb (length hs) most_homes f.homes)
      (le-leb (length t) (2 * most_rows) f.rows_most)) (le-leb (2 * length hs) room f.fits))
      (rising_so 0 hs (λ k l. omega arith) f.rise))
      (rows_so 0 t f.table.count f.table.whole (λ k l. omega arith) f.table.rise f.table.codes),
)
