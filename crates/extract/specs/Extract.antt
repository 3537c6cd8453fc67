-- The extract desk: the form, then the request, then the writing. Sentences in quotation marks are document 02's,
-- slip 3. "It works from the register's published answers only".
use Rattle.std.specs.Prelude.{ℕ, ◌≡◌, List, length}
use Rattle.std.specs.Prelude.{Result as Answer}
use Rattle.logic.specs.Answer.{answer as told}
use Rattle.logic.specs.Refusals.{out_of_form}
use Rattle.logic.specs.Result.{Result, ok, ◌>>◌, require, without_value}
use Rattle.logic.specs.declared.refusal.Refusal.{Refusal}
use Rattle.register.specs.Records.{Ask}
use Rattle.register.specs.Calls.{Lent, request_call, after_request}
use Rattle.words.specs.Place.{after_write}
use Rattle.homes.specs.Homes.{formed, joined}

-- the words to write, or the refusal: a form that is broken "is refused with 21 before the request is tried"
unfoldable pub extract_call : Lent → (reg : List ℕ) → Ask → (homes surveys : List ℕ) (room : ℕ) → Result (List ℕ)
extract_call l reg k hs t room = do
  require (formed hs t room) out_of_form 0
  request_call l reg k
  ok (joined hs t)

-- the answer, and the register and the output afterwards
pub record ExtractedAs (l : Lent) (reg : List ℕ) (k : Ask) (homes surveys new old out : List ℕ) (r : Answer (Unit {0}) Refusal) : Type 0 where
  pub answer : told r ≡ without_value (extract_call l reg k homes surveys (length old))
  pub register : new ≡ after_request (without_value (extract_call l reg k homes surveys (length old))) reg k
  pub output : out ≡ after_write (extract_call l reg k homes surveys (length old)) old
