-- Bytes put into a buffer, and numbers in decimal.
use Prim.Native.Char.{code}
use Prim.Native.String.{String, [] as end-of-text, ◌∷◌ as ◌then◌}
use Rattle.std.specs.Prelude.{ℕ, zero, suc, ◌+◌, ◌/◌, ◌%◌, ◌≡◌, List, [], ◌∷◌, ◌++◌, cond, ltb, length}
use Rattle.words.specs.Place.{written_at}

-- bytes were put from `to` on, and end at r
pub record Put (old : List ℕ) (to : ℕ) (text new : List ℕ) (r : ℕ) : Type 0 where
  pub bytes : new ≡ written_at old to text
  pub end : r ≡ to + length text

-- the bytes of a text whose characters are bytes
abbrev pub ascii : String → List ℕ
ascii end-of-text = []
ascii (c then s) = code c ∷ ascii s

abbrev pub zero_digit : ℕ
zero_digit = 48

abbrev pub comma : ℕ
comma = 44

abbrev pub feed : ℕ
feed = 10

-- a number's last k decimal digits at most, with no zeros in front
unfoldable pub digits : ℕ → ℕ → List ℕ
digits zero n = []
digits (suc k) n = cond (ltb n 10) ((zero_digit + n) ∷ []) (digits k (n / 10) ++ ((zero_digit + n % 10) ∷ []))

-- the digits that hold any 32-bit number
abbrev pub most_digits : ℕ
most_digits = 10

-- a 32-bit number in decimal
abbrev pub decimal : ℕ → List ℕ
decimal n = digits most_digits n

-- and a byte after it
unfoldable pub number : ℕ → ℕ → List ℕ
number n after = decimal n ++ (after ∷ [])

-- the bytes that this takes at most
abbrev pub number_bytes : ℕ
number_bytes = most_digits + 1
