-- The tests of the form.
use Prim.Native.Nat.{ℕ, zero, suc, ◌+◌, ◌*◌, ◌/◌, ◌%◌, ◌≤◌, ◌<◌}
use native.Mathlib.Numerals.{add-one}
use native.Mathlib.Omega.{arith}
use mathlib.Core.Path.{◌≡◌, refl, sym, ap, ap₂, ◌∙◌}
use mathlib.Core.Bool.{Bool, true, false, ◌&&◌}
use mathlib.Core.List.{List, [], ◌∷◌}
use lib.Dec.{ltb}
use lib.ListN.{length, get_or}
use borrow.Author.Tests.{ltb-true, ltb-false, le-leb, lt-leb}
use Rattle.std.specs.Bool.{MatchBool}
use Rattle.std.specs.List.{IsAllAdjacentAnswer, AllWithin, HoldsAt}
use Rattle.std.specs.Simd.{first_chunks}
use Rattle.homes.specs.Homes.{most_homes, most_rows, no_survey, rising, rows, formed}
use Rattle.homes.proofs.InForm.{pair_behind, next_one, rises, rising_so, is_table, rows_so}

-- numbers that are each below the next rise
rise_all : (f : ℕ → ℕ) (n : ℕ) → ((k : ℕ) → k + 1 < n → f k < f (k + 1)) → (i j : ℕ) → i < j → j < n → f i < f j
rise_all f n next i zero l m = absurd (omega arith)
rise_all f n next i (suc j) l m = go (ltb i j) refl (λ e. rise_all f n next i j e (omega arith)) (next j (omega arith))
  where
    go : (b : Bool) → ltb i j ≡ b → (i < j → f i < f j) → f j < f (j + 1) → f i < f (suc j)
    go true e before here = omega (arith, before (ltb-true i j e), ap f (add-one j))
    go false e before here =
        let s = ltb-false i j e in
        let q : i ≡ j = omega arith in
        omega (arith, ap f (add-one j), ap f q)

-- what is true or false as b is
not_so : (b : Bool) → (b ≡ true → ⊥) → false ≡ b
not_so true n = absurd (n refl)
not_so false n = refl

pub homes_decided : (hs : List ℕ) (r : Bool) → IsAllAdjacentAnswer (λ x y b. b ≡ ltb x y) hs r → r ≡ rising 0 hs
homes_decided hs true a =
    sym (rising_so 0 hs (λ k l. omega arith) (rise_all (λ k. get_or hs k 0) (length hs) (λ k l. ltb-true _ _ (sym (a k 0 l)))))
homes_decided hs false (k, l, e) =
    not_so (rising 0 hs) (λ q. let m = rises 0 hs q k (k + 1) (omega arith) l in omega (arith, ltb-false _ _ (sym (e 0))))

-- ---- the table, whose rows are ws

chunk_at : (t : List ℕ) (n k : ℕ) → k < n → 2 * n ≤ length t → get_or (first_chunks 2 n t) k [] ≡ get_or t (2 * k) 0 ∷ get_or t (2 * k + 1) 0 ∷ []
chunk_at [] n k h l = absurd (omega arith)
chunk_at (x ∷ []) n k h l = absurd (omega arith)
chunk_at (x ∷ c ∷ t) zero k h l = absurd (omega arith)
chunk_at (x ∷ c ∷ t) (suc n) zero h l = refl
chunk_at (x ∷ c ∷ t) (suc n) (suc k) h l =
    chunk_at t n k (omega arith) (omega arith) ∙ ap₂ (λ (a b : ℕ). a ∷ b ∷ []) (sym (pair_behind t x c k)) (sym (next_one t x c k))

pub rows_odd : (t : List ℕ) → (length t % 2 ≡ 0 → ⊥) → false ≡ rows 0 t
rows_odd t n = not_so (rows 0 t) (λ q. let w = (is_table t q).whole in n (omega arith))

module _ (t : List ℕ) (ws : List (List ℕ)) (front : ws ≡ first_chunks 2 (length t / 2) t) (len : length ws ≡ length t / 2) where
  row_at : (k : ℕ) → k < length ws → get_or ws k [] ≡ get_or t (2 * k) 0 ∷ get_or t (2 * k + 1) 0 ∷ []
  row_at k h = ap (λ (l : List (List ℕ)). get_or l k []) front ∙ chunk_at t (length t / 2) k (omega arith) (omega arith)

  home_at : (k : ℕ) → k < length ws → get_or (get_or ws k []) 0 0 ≡ get_or t (2 * k) 0
  home_at k h = ap (λ (l : List ℕ). get_or l 0 0) (row_at k h)

  code_at : (k : ℕ) → k < length ws → get_or (get_or ws k []) 1 0 ≡ get_or t (2 * k + 1) 0
  code_at k h = ap (λ (l : List ℕ). get_or l 1 0) (row_at k h)

  abbrev Sorted : Bool → Type 0
  Sorted s = IsAllAdjacentAnswer (λ x y b. b ≡ ltb (get_or x 0 0) (get_or y 0 0)) ws s

  pub rows_fall : (s : Bool) → Sorted s → s ≡ false → s ≡ rows 0 t
  rows_fall true a e = absurd (cc)
  rows_fall false (k, l, e) r = not_so (rows 0 t) (λ q.
      let f = is_table t q in
      omega (arith, f.whole, f.rise k (k + 1), ltb-false _ _ (sym (e [])), home_at k (omega arith), home_at (k + 1) l))

  pub rows_decided : (s a : Bool) → length t % 2 ≡ 0 → Sorted s → s ≡ true →
      MatchBool a (AllWithin (λ x. get_or x 1 0 ≡ no_survey → ⊥) ws 0 (length ws)) ((k : ℕ) × (k < length ws) × HoldsAt (λ x. get_or x 1 0 ≡ no_survey) ws k) →
      a ≡ rows 0 t
  rows_decided false a h s e m = absurd (cc)
  rows_decided true true h s e m =
      sym (rows_so 0 t (length t / 2) (omega arith) (λ k l. omega arith)
      (rise_all (λ k. get_or t (2 * k) 0) (length t / 2) (λ k l.
      omega (arith, ltb-true _ _ (sym (s k [] (omega arith))), home_at k (omega arith), home_at (k + 1) (omega arith))))
      (λ k l q. m k [] (omega arith) (omega arith) (code_at k (omega arith) ∙ q)))
  rows_decided true false h s e (k, l, q) =
      not_so (rows 0 t) (λ r. let f = is_table t r in f.codes k (omega (arith, f.whole)) (sym (code_at k l) ∙ q []))

-- ---- the whole form

module _ (hs t : List ℕ) (room : ℕ) where
  pub many_homes : most_homes < length hs → false ≡ formed hs t room
  unfolding formed
  many_homes h = sym (rw (lt-leb (length hs) most_homes h) refl)

  pub many_rows : length hs ≤ most_homes → 2 * most_rows < length t → false ≡ formed hs t room
  unfolding formed
  many_rows a h = sym (rw (le-leb (length hs) most_homes a, lt-leb (length t) (2 * most_rows) h) refl)

  pub short_output : length hs ≤ most_homes → length t ≤ 2 * most_rows → room < 2 * length hs → false ≡ formed hs t room
  unfolding formed
  short_output a b h = sym (rw (le-leb (length hs) most_homes a, le-leb (length t) (2 * most_rows) b, lt-leb (2 * length hs) room h) refl)

  pub lists_decide : length hs ≤ most_homes → length t ≤ 2 * most_rows → 2 * length hs ≤ room → (rising 0 hs && rows 0 t) ≡ formed hs t room
  unfolding formed
  lists_decide a b c = sym (rw (le-leb (length hs) most_homes a, le-leb (length t) (2 * most_rows) b, le-leb (2 * length hs) room c) refl)
