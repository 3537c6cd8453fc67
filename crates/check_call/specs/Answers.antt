-- What check hands back: the type's words, as a part of the workspace, or the refusal.
use Rattle.std.specs.Prelude.{ℕ, ◌≡◌, List}
use Rattle.logic.specs.Answer.{reason_number}
use Rattle.logic.specs.Result.{Result, ok, refused, ◌>>=◌}
use Rattle.logic.specs.Term.{Term, encode}
use Rattle.logic.specs.declared.refusal.Refusal.{Refusal}

-- there is a type, and it has exactly these words
abbrev pub TypeIs : Result Term → List ℕ → Type 0
TypeIs o words = (o >>= λ A. ok (encode A)) ≡ ok words

abbrev pub RefusedBy : Result Term → Refusal → Type 0
RefusedBy o e = o ≡ refused (reason_number e.reason) e.place
