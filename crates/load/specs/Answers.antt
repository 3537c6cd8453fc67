-- What the code is asked and what it ensures.
use Rattle.std.specs.Prelude.{ℕ, ◌+◌, ◌<◌, ◌≤◌, ◌≡◌, List, length}
use Rattle.logic.specs.Limits.{payloads}
use Rattle.logic.specs.Result.{Result, ok, ◌>>=◌}
use Rattle.words.specs.Place.{after_write}
use Rattle.load.specs.Load.{request_length}

-- the numbers are payloads, and there is room for the words of a request
pub record RequestFits (extract principal : ℕ) (out : List ℕ) (at : ℕ) : Type 0 where
  pub extract_fits : extract < payloads
  pub principal_fits : principal < payloads
  pub room : at + request_length ≤ length out

-- the answer is how many words were written; and the whole output
pub record WrittenAs (o : Result (List ℕ)) (old new : List ℕ) (r : Result ℕ) : Type 0 where
  pub answer : r ≡ (o >>= λ xs. ok (length xs))
  pub output : new ≡ after_write o old
