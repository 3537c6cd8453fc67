-- `read_signature` reads the list, by a loop over its constants. The invariant (`ReadUpTo`): the constants up to `at`
-- are read, and what is left decides the answer. The measure is the number of words left.
use Prim.Native.Nat.{◌-◌}
use lib.ListN.{length}
use Rattle.signature.proofs.Listings.{ReadUpTo}
use Rattle.signature.proofs.list.read_signature.Given as goal

abbrev pub invariant-loop-at : goal.invariant-loop-at
invariant-loop-at l = ReadUpTo l.sig l.table l.at l.count

abbrev pub decreases-loop-at : goal.decreases-loop-at
decreases-loop-at l = length l.sig - l.at
