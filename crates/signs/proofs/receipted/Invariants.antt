-- The requests of the list in turn. The invariant: from the place `at` on the requests left decide. The measure: the
-- words that are left.
use Prim.Native.Nat.{◌-◌}
use lib.ListN.{length}
use Rattle.signs.proofs.Receipts.{Asking}
use Rattle.signs.proofs.receipted.Given as goal

abbrev pub invariant-loop-at : goal.invariant-loop-at
invariant-loop-at l = Asking l.asked l.at l.principal l.words

abbrev pub decreases-loop-at : goal.decreases-loop-at
decreases-loop-at l = length l.asked - l.at
