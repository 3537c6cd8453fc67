-- Numbers in a file's lines, in decimal: how they are read, byte by byte, and how they are written. Sentences in
-- quotation marks are document 02's, slip 3.
use Rattle.std.specs.Prelude.{ℕ, ◌+◌, ◌*◌, ◌-◌, ◌≤◌, ◌≡◌, Bool, true, false, ◌&&◌, cond, List, [], ◌∷◌, ◌++◌, leb, eqb, length, drop, Option, Some, None}
use Rattle.logic.specs.Refusals.{out_of_form}
use Rattle.logic.specs.Answer.{found}
use Rattle.logic.specs.Result.{Result, ok, refused, require, ◌>>=◌, ◌>>◌}
use Rattle.words.specs.Place.{written_at}
use Rattle.decimal.specs.Decimal.{zero_digit, feed, number}

-- ---- the reader

-- a home or a code is a u32
abbrev pub largest : ℕ
largest = 4294967295

abbrev pub is_digit : ℕ → Bool
is_digit b = leb zero_digit b && leb b (zero_digit + 9)

-- the number so far, if it has begun, with one byte more: "no number has a needless zero"
unfoldable pub digit : Option ℕ → ℕ → Result ℕ
digit None b = require (is_digit b) out_of_form 0 >> ok (b - zero_digit)
digit (Some n) b =
    require (is_digit b && leb 1 n && leb (10 * n + (b - zero_digit)) largest) out_of_form 0 >> ok (10 * n + (b - zero_digit))

-- the end of the bytes: "each line ends in a line feed", so no number is left open, and the one before ended in `other`
abbrev pub bytes_ended : (other : ℕ) → Option ℕ → Result (List ℕ)
bytes_ended other None = require (eqb other feed) out_of_form 0 >> ok []
bytes_ended other (Some n) = refused out_of_form 0

-- the numbers of these bytes: the one at hand ends in the byte `this`, the next one in `other`, and so on by turns
unfoldable pub numbers : (this other : ℕ) → Option ℕ → List ℕ → Result (List ℕ)
numbers this other f [] = bytes_ended other f
numbers this other f (b ∷ bs) =
    cond (eqb b this)
    (found out_of_form 0 f >>= λ n. (numbers other this None bs >>= λ ns. ok (n ∷ ns)))
    (digit f b >>= λ n. numbers this other (Some n) bs)

-- the bytes begin with these
unfoldable pub starts_with : (heading bs : List ℕ) → Bool
starts_with [] bs = true
starts_with (h ∷ hs) [] = false
starts_with (h ∷ hs) (b ∷ bs) = eqb b h && starts_with hs bs

-- the numbers behind a first line; the first number of a line ends in `this`, its last in a line feed
unfoldable pub file : (heading : List ℕ) (this : ℕ) → List ℕ → Result (List ℕ)
file heading this bs = require (starts_with heading bs) out_of_form 0 >> numbers this feed None (drop (length heading) bs)

-- ---- how numbers are written

-- in decimal, ending in `this` and in `other` by turns
unfoldable pub fields : (this other : ℕ) → List ℕ → List ℕ
fields this other [] = []
fields this other (n ∷ ns) = number n this ++ fields other this ns

-- ---- the grammar of a file, without a reader

unfoldable pub Small : List ℕ → Type 0
Small [] = Unit {0}
Small (n ∷ ns) = (n ≤ largest) × Small ns

-- the byte behind the last number, and `other` where there is none
unfoldable pub last_end : (this other : ℕ) → List ℕ → ℕ
last_end this other [] = other
last_end this other (n ∷ ns) = last_end other this ns

-- the heading, and then these numbers in decimal, each a u32; the last line is whole
pub record IsFile (heading : List ℕ) (this : ℕ) (bs ns : List ℕ) : Type 0 where
  pub bytes : bs ≡ heading ++ fields this feed ns
  pub small : Small ns
  pub whole : last_end this feed ns ≡ feed

-- ---- what the code answers

-- how many there are
abbrev pub count_of : Result (List ℕ) → Result ℕ
count_of o = o >>= λ ns. ok (length ns)

-- the answer tells how many numbers there are, and they stand at the front of the words; what stands there where the
-- file is refused is free
pub record ReadAs (o : Result (List ℕ)) (old new : List ℕ) (r : Option ℕ) : Type 0 where
  pub answer : found out_of_form 0 r ≡ count_of o
  pub words : (ns : List ℕ) → o ≡ ok ns → new ≡ written_at old 0 ns
