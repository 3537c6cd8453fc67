-- What the search for a term's Signs is asked.
use Rattle.std.specs.Prelude.{ℕ, List}
use Rattle.logic.specs.Term.{Term}
use Rattle.words.specs.Place.{Is}
use Rattle.register.specs.Records.{Ask}
use Rattle.register.specs.BatchTests.{AskedBefore}

-- the words of a plain term
pub record IsTerm (ws : List ℕ) : Type 0 where
  pub term : Term
  pub is : Is ws term

-- the words of requests in a batch's list, which passed test 5
pub record SomeAsked (ws : List ℕ) : Type 0 where
  pub asked : List Ask
  pub before : AskedBefore ws asked
