-- The grants one after another. The invariant: the register has those of the items before the place, and the items
-- behind are granted on it. The measure: the words left.
use Prim.Native.Nat.{◌-◌}
use lib.ListN.{length}
use Rattle.batch.proofs.GrantsInTurn.{Granting}
use Rattle.batch.proofs.grant_items.Given as goal

abbrev pub invariant-loop-end : goal.invariant-loop-end
invariant-loop-end l = Granting l.initial.register l.register l.day l.items l.at

abbrev pub decreases-loop-end : goal.decreases-loop-end
decreases-loop-end l = length l.items - l.at
