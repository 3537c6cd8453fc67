-- The call for document 02, slip 8: "Audit work needs to know whether a binder is used".
use Rattle.std.specs.Prelude.{ℕ, List}
use Rattle.logic.specs.Limits.{most_words, most_nesting}
use Rattle.logic.specs.Result.{Result, ok, ◌>>=◌}
use Rattle.logic.specs.Move.{free_from}
use Rattle.logic.specs.Check.{term_of}

-- tests 6 to 8, then how many variables stand free that are numbered k or more, each as often as it stands
abbrev pub uses_call : (k : ℕ) → List ℕ → Result ℕ
uses_call k ws = term_of most_words most_nesting ws >>= λ t. ok (free_from k t)
