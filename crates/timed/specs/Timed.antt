-- Tests 1, 4 and 6 to 12, by their definitions.
use Rattle.std.specs.Prelude.{ℕ, List, leb}
use Rattle.logic.specs.Limits.{least_workspace, most_words, most_nesting}
use Rattle.logic.specs.Refusals.{workspace_short}
use Rattle.logic.specs.Result.{Result, ◌>>=◌, ◌>>◌, require}
use Rattle.logic.specs.Term.{Term}
use Rattle.logic.specs.SignatureList.{signature}
use Rattle.typing.specs.Check.{typed_term}

abbrev pub timed_tests : ℕ → (sig term : List ℕ) → Result Term
timed_tests workspace sig term = do
  require (leb least_workspace workspace) workspace_short 0
  Σ ← signature sig
  typed_term Σ most_words most_nesting term
