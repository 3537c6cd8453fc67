-- What simplifying answers, and the output.
use Rattle.std.specs.Prelude.{ℕ, ◌≤◌, ◌≡◌, List, []}
use Rattle.logic.specs.Limits.{most_words}
use Rattle.logic.specs.Result.{Result, ok, ◌>>=◌}
use Rattle.logic.specs.Term.{Term, size}
use Rattle.logic.specs.Typing.{Has}
use Rattle.logic.specs.Scope.{Signature}
use Rattle.words.specs.Place.{At}
use Rattle.reduction.specs.Simplify.{Simplified}
use Rattle.reduction.specs.Call.{after_simplify}
use Rattle.simplify.specs.declared.reduce.Simplified.{Simplified as Counts}

-- the words of a typed term, n in number, stand in front of a list
pub record Subject (ws : List ℕ) (n : ℕ) : Type 0 where
  pub term : Term
  pub here : At ws 0 term
  pub count : n ≡ size term
  pub short : size term ≤ most_words
  pub Σ : List Term
  pub signature : Signature Σ
  pub type : Term
  pub typed : Has Σ [] term type

-- and this list and another have just as many words as a term may have
pub record Reducible (one : List ℕ) (n len room : ℕ) : Type 0 where
  pub subject : Subject one n
  pub just : len ≡ most_words
  pub just_other : room ≡ most_words

-- the number of steps, and of the result's words
abbrev pub counts_of : Result Simplified → Result Counts
counts_of o = o >>= λ s. ok (record { steps = s.steps; words = size s.result })

-- the answer, and the whole output
pub record SimplifiedAs (o : Result Simplified) (old new : List ℕ) (r : Result Counts) : Type 0 where
  pub answer : r ≡ counts_of o
  pub output : new ≡ after_simplify o old
