-- The words of the rules, each once. The invariant: the total is what the rules before the place take. The measure: the
-- words that are left.
use Prim.Native.Nat.{◌-◌, ◌≤◌}
use lib.ListN.{length}
use Rattle.rule_list.proofs.RuleList.{Counting}
use Rattle.rule_list.proofs.opening.opening_words.Given as goal

abbrev pub invariant-loop-at : goal.invariant-loop-at
invariant-loop-at l = (l.at ≤ length l.rules) × Counting l.rules l.at l.total

abbrev pub decreases-loop-at : goal.decreases-loop-at
decreases-loop-at l = length l.rules - l.at
