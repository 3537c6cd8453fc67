-- The invariant: the items before the place passed, and the words used and the latest day are as behind them. The
-- measure: the words left.
use Prim.Native.Nat.{◌-◌}
use lib.ListN.{length}
use Rattle.batch_tests.proofs.TestsInTurn.{Testing}
use Rattle.batch_tests.proofs.test_items.Given as goal

abbrev pub invariant-loop-at : goal.invariant-loop-at
invariant-loop-at l = Testing l.signature l.table l.view.source.list.now l.day l.items l.used l.latest l.at l.index

abbrev pub decreases-loop-at : goal.decreases-loop-at
decreases-loop-at l = length l.items - l.at
