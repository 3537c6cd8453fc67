-- One turn: the first step of a term, within the budget and the limits.
use Rattle.std.specs.Prelude.{ℕ, ◌≤◌, ◌≡◌, List, ltb, Some, None}
use Rattle.std.specs.Prelude.{Option as Maybe}
use Rattle.std.proofs.Math.Option.{Option, some, none}
use Rattle.logic.specs.Limits.{most_words}
use Rattle.logic.specs.Refusals.{step_remains}
use Rattle.logic.specs.Result.{Result, ok, ◌>>=◌, ◌>>◌, require}
use Rattle.logic.specs.Term.{Term, size}
use Rattle.logic.specs.Reading.{Plain}
use Rattle.words.specs.Place.{At}
use Rattle.reduction.specs.Steps.{next_step}
use Rattle.reduction.specs.Simplify.{in_limits}

-- the words of a term, n in number, stand in front of a list, words can give the result of its step, and for that there
-- is room for just as many as a term may have
pub record Turnable (from : List ℕ) (n room : ℕ) : Type 0 where
  pub term : Term
  pub here : At from 0 term
  pub count : n ≡ size term
  pub short : size term ≤ most_words
  pub plain : (u : Term) → next_step term ≡ some u → size u ≤ most_words → Plain u
  pub just : room ≡ most_words

-- where `left` steps may still be taken: nothing if no step is left, and else its result, or the refusal
abbrev pub turned : (left : ℕ) → Option Term → Result (Option Term)
turned left none = ok none
turned left (some u) = do
  require (ltb 0 left) step_remains 0
  in_limits u
  ok (some u)

-- how many words the result has, if a step was left
abbrev pub words_of : Option Term → Maybe ℕ
words_of none = None
words_of (some u) = Some (size u)

-- the answer, and the result's words in front
pub record TurnedTo (o : Result (Option Term)) (new : List ℕ) (r : Result (Maybe ℕ)) : Type 0 where
  pub answer : r ≡ (o >>= λ q. ok (words_of q))
  pub front : (u : Term) → o ≡ ok (some u) → At new 0 u
