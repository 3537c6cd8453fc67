-- The writing step of an extract: each home of a list with its survey code. Sentences in quotation marks are
-- document 02's, slip 3.
use Rattle.std.specs.Prelude.{Result as Answer}
use Rattle.std.specs.Prelude.{ℕ, ◌+◌, ◌*◌, ◌≡◌, Bool, true, false, ◌&&◌, not, cond, List, [], ◌∷◌, leb, eqb, length}
use Rattle.logic.specs.Refusals.{out_of_form}
use Rattle.logic.specs.Answer.{answer}
use Rattle.logic.specs.Result.{Result, ok, without_value, ◌>>◌, require}
use Rattle.logic.specs.declared.refusal.Refusal.{Refusal}
use Rattle.words.specs.Place.{after_write}

-- "a list of homes (u32, at most 1,024, strictly rising)"
abbrev pub most_homes : ℕ
most_homes = 1024

-- "a table of home and survey code (at most 4,096 rows)"; a row is two words
abbrev pub most_rows : ℕ
most_rows = 4096

-- "4294967295 where no survey exists, which is never a code"
abbrev pub no_survey : ℕ
no_survey = 4294967295

-- ---- the form

-- strictly rising, from `least` on
unfoldable pub rising : ℕ → List ℕ → Bool
rising least [] = true
rising least (h ∷ hs) = leb least h && rising (h + 1) hs

-- rows, each a home and a code: "homes also strictly rising", from `least` on
unfoldable pub rows : ℕ → List ℕ → Bool
rows least [] = true
rows least (h ∷ []) = false
rows least (h ∷ c ∷ t) = leb least h && not (eqb c no_survey) && rows (h + 1) t

-- the list hs, the table t and an output of `room` words are in form
unfoldable pub formed : (hs t : List ℕ) (room : ℕ) → Bool
formed hs t room =
    leb (length hs) most_homes && leb (length t) (2 * most_rows) && leb (2 * length hs) room && rising 0 hs && rows 0 t

-- ---- what is written

-- the code of a home's row
unfoldable pub survey_code : ℕ → List ℕ → ℕ
survey_code h [] = no_survey
survey_code h (x ∷ []) = no_survey
survey_code h (x ∷ c ∷ t) = cond (eqb x h) c (survey_code h t)

-- "every home in the list's order with its survey code, or 4294967295 where no survey exists"
unfoldable pub joined : (hs t : List ℕ) → List ℕ
joined [] t = []
joined (h ∷ hs) t = h ∷ survey_code h t ∷ joined hs t

-- the writing step: its words, or the refusal
unfoldable pub write_call : (hs t : List ℕ) (room : ℕ) → Result (List ℕ)
write_call hs t room = require (formed hs t room) out_of_form 0 >> ok (joined hs t)

-- the answer, and the output afterwards: "output past the last home is unchanged"
pub record Wrote (o : Result (List ℕ)) (old new : List ℕ) (r : Answer (Unit {0}) Refusal) : Type 0 where
  pub answered : answer r ≡ without_value o
  pub output : new ≡ after_write o old
