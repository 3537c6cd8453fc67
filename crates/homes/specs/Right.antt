-- What a right form and a right output are, without any way of testing the one or making the other.
use Rattle.std.specs.Prelude.{ℕ, ◌+◌, ◌*◌, ◌≤◌, ◌<◌, ◌≡◌, ◌≢◌, ◌↔◌, true, cond, List, [], ◌∷◌, eqb, length, take, get_or}
use Rattle.words.specs.Place.{written_at}
use Rattle.homes.specs.Homes.{most_homes, most_rows, no_survey, formed, joined}

-- "strictly rising": each home is above those before it
abbrev pub Rising : List ℕ → Type 0
Rising hs = (i j : ℕ) → i < j → j < length hs → get_or hs i 0 < get_or hs j 0

-- a table: whole rows, "homes also strictly rising", and 4294967295 "never a code"
pub record Table (t : List ℕ) : Type 0 where
  pub count : ℕ
  pub whole : length t ≡ 2 * count
  pub rise : (i j : ℕ) → i < j → j < count → get_or t (2 * i) 0 < get_or t (2 * j) 0
  pub codes : (i : ℕ) → i < count → get_or t (2 * i + 1) 0 ≢ no_survey

-- the form of a list, a table and an output of so many words
pub record InForm (hs t : List ℕ) (room : ℕ) : Type 0 where
  pub homes : length hs ≤ most_homes
  pub rise : Rising hs
  pub rows_most : length t ≤ 2 * most_rows
  pub table : Table t
  pub fits : 2 * length hs ≤ room

-- the table has the row of home h with the code c
pub record Row (t : List ℕ) (h c : ℕ) : Type 0 where
  pub index : ℕ
  pub inside : 2 * index + 1 < length t
  pub home : get_or t (2 * index) 0 ≡ h
  pub code : get_or t (2 * index + 1) 0 ≡ c

-- the output `old` became `new` as it should. Home k of the list stands at word 2k. Behind it stands c exactly if the
-- table has the row of that home with c, and 4294967295 exactly if no row has that home
pub record Right (hs t old new : List ℕ) : Type 0 where
  pub size : length new ≡ length old
  pub home : (k : ℕ) → k < length hs → get_or new (2 * k) 0 ≡ get_or hs k 0
  pub code : (k c : ℕ) → k < length hs → c ≢ no_survey → (get_or new (2 * k + 1) 0 ≡ c) ↔ Row t (get_or hs k 0) c
  pub none : (k : ℕ) → k < length hs → (get_or new (2 * k + 1) 0 ≡ no_survey) ↔ ((c : ℕ) → Row t (get_or hs k 0) c → ⊥)
  -- "output past the last home is unchanged"
  pub past : (k : ℕ) → 2 * length hs ≤ k → get_or new k 0 ≡ get_or old k 0

-- the pairs of words with a code, and those without
unfoldable pub with_code : List ℕ → ℕ
with_code [] = 0
with_code (h ∷ []) = 0
with_code (h ∷ c ∷ ws) = cond (eqb c no_survey) 0 1 + with_code ws

unfoldable pub without_code : List ℕ → ℕ
without_code [] = 0
without_code (h ∷ []) = 0
without_code (h ∷ c ∷ ws) = cond (eqb c no_survey) 1 0 + without_code ws

-- the writing step does what it should
pub record WritingStep : Type 0 where
  -- the test of the form passes exactly what is in form
  pub form : (hs t : List ℕ) (room : ℕ) → (formed hs t room ≡ true) ↔ InForm hs t room
  -- in form, the words written are the right output and no other: no home falls out
  pub right : (hs t old new : List ℕ) → InForm hs t (length old) → (new ≡ written_at old 0 (joined hs t)) ↔ Right hs t old new
  -- "Homes listed = homes with a code + homes without", counted on the output's words
  pub counted : (hs t old new : List ℕ) → InForm hs t (length old) → Right hs t old new →
      length hs ≡ with_code (take (2 * length hs) new) + without_code (take (2 * length hs) new)
