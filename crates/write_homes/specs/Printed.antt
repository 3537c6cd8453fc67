-- What the program prints: from the bytes of the two files, or their absence, to bytes. Sentences in quotation marks
-- are document 02's, slip 3.
use Rattle.std.specs.Prelude.{ℕ, ◌+◌, ◌*◌, ◌≡◌, List, ◌++◌, length, Option, Some, None}
use Rattle.std.specs.Borrow.{Bor}
use Rattle.std.specs.Option.{option_map}
use Rattle.logic.specs.Refusals.{out_of_form}
use Rattle.logic.specs.Answer.{found}
use Rattle.logic.specs.Result.{Result, ok, refused, ◌>>=◌}
use Rattle.decimal.specs.Decimal.{ascii, comma, feed, number_bytes}
use Rattle.words.specs.Place.{written_at}
use Rattle.number_file.specs.NumberFile.{file, fields}
use Rattle.homes.specs.Homes.{most_homes, most_rows, write_call}

-- the first lines: "files `homes` (first line `home`) and `surveys` (`home,code`)"
abbrev pub home_line : List ℕ
home_line = ascii "home\n"

abbrev pub home_code_line : List ℕ
home_code_line = ascii "home,code\n"

-- the bytes of the longest list and of the longest table that can be in form
abbrev pub most_list : ℕ
most_list = 5 + number_bytes * most_homes

abbrev pub most_table : ℕ
most_table = 10 + number_bytes * (2 * most_rows)

-- the bytes that the longest output takes
abbrev pub output_room : ℕ
output_room = 10 + number_bytes * (2 * most_homes)

-- a file's bytes, if it is there
abbrev pub given : Option (Bor (List ℕ)) → Option (List ℕ)
given f = option_map (λ bs. bs.now) f

-- the two files' numbers, and the writing step; "anything else, or no file, is 21"
unfoldable pub written_homes : (homes surveys : Option (List ℕ)) → Result (List ℕ)
written_homes f g = do
  hs ← found out_of_form 0 f >>= file home_line feed
  t ← found out_of_form 0 g >>= file home_code_line comma
  write_call hs t (2 * most_homes)

-- the words, if it is not refused
abbrev pub words_of : Result (List ℕ) → Option (List ℕ)
words_of (ok ws) = Some ws
words_of (refused m p) = None

-- what the step answers: how many words there are, and they stand at the front of the output; what stands there where
-- there are none is free
pub record Stepped (o : Result (List ℕ)) (old new : List ℕ) (r : Option ℕ) : Type 0 where
  pub count : r ≡ option_map (λ ws. length ws) (words_of o)
  pub words : (ws : List ℕ) → o ≡ ok ws → new ≡ written_at old 0 ws

abbrev pub refusal : List ℕ
refusal = ascii "refused,21\n"

-- "prints `home,code` and the result, or only `refused,21`"
unfoldable pub shown : Result (List ℕ) → List ℕ
shown (ok ws) = home_code_line ++ fields comma feed ws
shown (refused m p) = refusal

abbrev pub printed : (homes surveys : Option (List ℕ)) → List ℕ
printed f g = shown (written_homes f g)
