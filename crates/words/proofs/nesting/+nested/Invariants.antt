-- `nested` tests the nesting of a term, by recursion on a node's first child and a loop over second children, each
-- tested in its node's place. The invariant: the answer of the term at `start` with `room` levels is that of the term
-- at `at` with `left`. The measure of both is the number of levels left.
use Prim.Native.Nat.{ℕ, ◌≤◌}
use Rattle.logic.specs.Result.{Result}
use Rattle.words.specs.Place.{Stands}
use Rattle.words.proofs.Nestings.{Tests}
use Rattle.words.proofs.nesting.+nested.Given as goal

-- the answer for the term that is left is the answer
abbrev pub invariant-loop-room : goal.invariant-loop-room
invariant-loop-room l =
    (l.room ≤ l.left) × Stands l.words l.start × ((r : Result ℕ) → Tests l.words l.room l.start r → Tests l.words l.left l.at r)

abbrev pub decreases-loop-room : goal.decreases-loop-room
decreases-loop-room l = l.room

abbrev pub decreases-nested : goal.decreases-nested
decreases-nested l = l.left
