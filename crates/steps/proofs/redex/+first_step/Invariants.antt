-- The search for the first step, by recursion on the children in which steps are taken: a node's own comes first, then
-- that of its first child, then that of its second. The measure is the number of words from the term's place to the end
-- of the list.
use Prim.Native.Nat.{◌-◌}
use lib.ListN.{length}
use Rattle.steps.proofs.redex.+first_step.Given as goal

abbrev pub decreases-first_step : goal.decreases-first_step
decreases-first_step l = length l.words.now - l.at
