-- Simplifying a term: first steps, "up to a stated number of steps", each result within the limits of a term; or the
-- refusal that ends the work.
use Rattle.std.specs.Prelude.{ℕ, zero, suc, ◌≤◌, ◌<◌, leb}
use Rattle.std.proofs.Math.Option.{Option, some, none}
use Rattle.logic.specs.Limits.{most_words, most_nesting}
use Rattle.logic.specs.Refusals.{term_length, nesting, step_remains}
use Rattle.logic.specs.Result.{Result, ok, refused, ◌>>=◌, ◌>>◌, require, nowhere}
use Rattle.logic.specs.Term.{Term, size}
use Rattle.logic.specs.Reading.{depth, too_deep, FirstTooDeep}
use Rattle.reduction.specs.Steps.{next_step, FirstStep, Irreducible}

-- "The result carries its step count"
pub record Simplified : Type 0 where
  pub steps : ℕ
  pub result : Term

-- "A step whose result passes the term limits ends the work with 6 or 8"
abbrev pub in_limits : Term → Result (Unit {0})
in_limits u = do
  require (leb (size u) most_words) term_length 0
  nowhere nesting (too_deep most_nesting 0 u)

-- no step was taken, and none is left
abbrev pub unstepped : Term → Simplified
unstepped t = record { steps = 0; result = t }

-- one step more, before these
abbrev pub one_before : Simplified → Simplified
one_before r = record { steps = suc r.steps; result = r.result }

-- "If a step remains when the budget is used it is 26", whatever its result
abbrev pub at_budget : Term → Option Term → Result Simplified
at_budget t none = ok (unstepped t)
at_budget t (some u) = refused step_remains 0

-- the step from t, if there is one, and what `more` makes of its result
abbrev pub from_step : Term → Option Term → (Term → Result Simplified) → Result Simplified
from_step t none more = ok (unstepped t)
from_step t (some u) more = do
  in_limits u
  r ← more u
  ok (one_before r)

-- the first argument is the budget
unfoldable pub simplify : ℕ → Term → Result Simplified
simplify zero t = at_budget t (next_step t)
simplify (suc k) t = from_step t (next_step t) (simplify k)

-- ---- what it stands for, without the search and the tests

pub record InLimits (t : Term) : Type 0 where
  pub short : size t ≤ most_words
  pub nested : depth t ≤ most_nesting

-- n steps, each the first in word order, with results within the limits
pub data FirstSteps : ℕ → Term → Term → Type 0 where
  no_step : {t : Term} → FirstSteps 0 t t
  one_step : {n : ℕ} {t u v : Term} → FirstStep t u → InLimits u → FirstSteps n u v → FirstSteps (suc n) t v

-- a result: within the budget and the limits, and no step is left
pub record Finished (k : ℕ) (t : Term) (r : Simplified) : Type 0 where
  pub taken : FirstSteps r.steps t r.result
  pub budget : r.steps ≤ k
  pub done : Irreducible r.result

-- why the work ends before its end
module _ (k : ℕ) (t : Term) where
  pub data Ended : (number place : ℕ) → Type 0 where
    -- a step's result is too long
    ended_6 : {n : ℕ} {u v : Term} → FirstSteps n t u → n < k → FirstStep u v → most_words < size v → Ended term_length 0
    -- it is nested too deep; the place is that of its first word at depth 33
    ended_8 : {n p : ℕ} {u v : Term} → FirstSteps n t u → n < k → FirstStep u v → size v ≤ most_words → FirstTooDeep most_nesting 0 v p → Ended nesting p
    -- the budget is used, and a step remains
    ended_26 : {u v : Term} → FirstSteps k t u → FirstStep u v → Ended step_remains 0
