-- Guards of numbers in decimal: what their digits tell, by a reading of its own.
use Rattle.std.specs.Prelude.{ℕ, ◌+◌, ◌*◌, ◌-◌, ◌≤◌, ◌<◌, ◌≡◌, ◌≢◌, List, [], ◌∷◌, length, get_or}
use Rattle.decimal.specs.Decimal.{decimal}

-- the number that digits tell, behind digits that told n
abbrev pub value_from : ℕ → List ℕ → ℕ
value_from n [] = n
value_from n (b ∷ bs) = value_from (n * 10 + (b - 48)) bs

abbrev pub value : List ℕ → ℕ
value bs = value_from 0 bs

-- each byte is a digit
abbrev pub Digits : List ℕ → Type 0
Digits [] = Unit {0}
Digits (b ∷ bs) = (48 ≤ b) × (b ≤ 57) × Digits bs

-- "all in decimal" (document 01), "no number has a needless zero" (document 02)
pub record DecimalGuards : Type 0 where
  pub reads_back : (n : ℕ) → n < 4294967296 → value (decimal n) ≡ n
  pub digits_only : (n : ℕ) → Digits (decimal n)
  pub not_empty : (n : ℕ) → 1 ≤ length (decimal n)
  pub no_needless_zero : (n : ℕ) → n < 4294967296 → 2 ≤ length (decimal n) → get_or (decimal n) 0 0 ≢ 48
