-- The digits of a number, one at a time.
use Prim.Native.Nat.{ℕ, zero, suc, ◌+◌, ◌*◌, ◌-◌, ◌/◌, ◌%◌, ◌≤◌, ◌<◌}
use native.Mathlib.Omega.{arith}
use mathlib.Core.Path.{◌≡◌, refl, sym, ap, ◌∙◌}
use mathlib.Core.Bool.{Bool, true, false, cond}
use mathlib.Core.List.{List, [], ◌∷◌, ◌++◌}
use lib.Dec.{ltb}
use lib.ListN.{length, length-append}
use borrow.Author.Tests.{lt-ltb, le-ltb, ltb-true, ltb-false}
use Rattle.decimal.specs.Decimal.{zero_digit, digits, decimal, number, number_bytes}

-- the digits of a number by the test whether it has one only, with k places for those in front
abbrev by_size : (k n : ℕ) → Bool → List ℕ
by_size k n small = cond small ((zero_digit + n) ∷ []) (digits k (n / 10) ++ ((zero_digit + n % 10) ∷ []))

pub digits_none : (k n : ℕ) → k ≡ 0 → [] ≡ digits k n
unfolding digits
digits_none k n e = ap (λ (j : ℕ). digits j n) (sym e)

pub digits_one : (k n : ℕ) → (k ≡ 0 → ⊥) → n < 10 → (zero_digit + n) ∷ [] ≡ digits k n
unfolding digits
digits_one zero n ne h = absurd (ne refl)
digits_one (suc k) n ne h = sym (ap (by_size k n) (lt-ltb n 10 h))

pub digits_more : (k n : ℕ) → (k ≡ 0 → ⊥) → 10 ≤ n → digits (k - 1) (n / 10) ++ ((zero_digit + n % 10) ∷ []) ≡ digits k n
unfolding digits
digits_more zero n ne h = absurd (ne refl)
digits_more (suc k) n ne h =
    let e : suc k - 1 ≡ k = omega arith in
    ap (λ (j : ℕ). digits j (n / 10) ++ ((zero_digit + n % 10) ∷ [])) e ∙ sym (ap (by_size k n) (le-ltb n 10 h))

pub digits_length : (k n : ℕ) → length (digits k n) ≤ k
unfolding digits
digits_length zero n = omega arith
digits_length (suc k) n = go (ltb n 10) (digits_length k (n / 10))
  where
    go : (b : Bool) → length (digits k (n / 10)) ≤ k → length (by_size k n b) ≤ suc k
    go true h = omega arith
    go false h = omega (arith, length-append (digits k (n / 10)) ((zero_digit + n % 10) ∷ []))

pub number_length : (n after : ℕ) → length (number n after) ≤ number_bytes
unfolding number
number_length n after = omega (arith, digits_length 10 n, length-append (decimal n) (after ∷ []))

-- the numbers of k digits at most are below this
abbrev pub power : ℕ → ℕ
power zero = 1
power (suc k) = 10 * power k

-- a place that a number does not need changes nothing
digits_room : (k n : ℕ) (b : Bool) → ltb n 10 ≡ b → n < 10 * power k → (10 ≤ n → digits k (n / 10) ≡ digits (suc k) (n / 10)) →
    digits (suc k) n ≡ digits (suc (suc k)) n
digits_room k n true e h f =
    let s = ltb-true n 10 e in
    sym (digits_one (suc k) n (λ z. omega arith) s) ∙ digits_one (suc (suc k)) n (λ z. omega arith) s
digits_room k n false e h f =
    let s = ltb-false n 10 e in
    let a : suc k - 1 ≡ k = omega arith in
    let b : suc (suc k) - 1 ≡ suc k = omega arith in
    let front : digits (suc k - 1) (n / 10) ≡ digits (suc (suc k) - 1) (n / 10) =
    ap (λ (j : ℕ). digits j (n / 10)) a ∙ f s ∙ ap (λ (j : ℕ). digits j (n / 10)) (sym b) in
    sym (digits_more (suc k) n (λ z. omega arith) s)
    ∙ ap (λ (d : List ℕ). d ++ ((zero_digit + n % 10) ∷ [])) front
    ∙ digits_more (suc (suc k)) n (λ z. omega arith) s

pub digits_place_more : (k n : ℕ) → n < 10 * power k → digits (suc k) n ≡ digits (suc (suc k)) n
digits_place_more zero n h = digits_room zero n (ltb n 10) refl h (λ s. absurd (omega arith))
digits_place_more (suc k) n h = digits_room (suc k) n (ltb n 10) refl h (λ s. digits_place_more k (n / 10) (omega arith))
