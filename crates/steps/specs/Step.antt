-- The words of a step's result.
use Rattle.std.specs.Prelude.{ℕ, ◌+◌, ◌≤◌, ◌<◌, ◌≡◌, cond, List, leb, length, Some, None}
use Rattle.std.specs.Prelude.{Option as Maybe}
use Rattle.std.proofs.Math.Option.{some}
use Rattle.logic.specs.Limits.{payloads}
use Rattle.logic.specs.Term.{Op, Term, node, encode, size}
use Rattle.logic.specs.Move.{fill}
use Rattle.words.specs.Place.{At, written_at}
use Rattle.reduction.specs.Steps.{contracted}
use Rattle.steps.specs.Redex.{first_place}
use Rattle.steps.specs.declared.step.Filling.{Filling}

-- a node stands at a place at whose root a rule fits
pub record RedexAt (ws : List ℕ) (at : ℕ) : Type 0 where
  pub o : Op
  pub a : Term
  pub b : Term
  pub result : Term
  pub here : At ws at (node o a b)
  pub rule : contracted o a b ≡ some result

-- a node that stands at a place becomes u by filling a body with a term, which stand at places within it
pub record FillingOf (ws : List ℕ) (at : ℕ) (t u : Term) (r : Filling) : Type 0 where
  pub body : Term
  pub filler : Term
  pub body_at : At ws r.body body
  pub filler_at : At ws r.from filler
  pub filler_end : r.upto ≡ r.from + size filler
  pub smaller : size body + size filler < size t
  pub end : r.end ≡ at + size t
  pub filled : fill body filler ≡ u

-- the words of a term, n in number, stand in front of a list, a step is taken at a place, and there is room for as many
-- words
pub record Steppable (ws : List ℕ) (n at room : ℕ) : Type 0 where
  pub term : Term
  pub here : At ws 0 term
  pub count : n ≡ size term
  pub taken : first_place 0 term ≡ some at
  pub few : size term ≤ payloads
  pub fits : size term ≤ room

-- the answer is how many words the result has, and the words of u are written at the front, if there is room
pub record SteppedTo (u : Term) (old new : List ℕ) (r : Maybe ℕ) : Type 0 where
  pub answer : r ≡ cond (leb (size u) (length old)) (Some (size u)) None
  pub words : size u ≤ length old → new ≡ written_at old 0 (encode u)
