-- Steps one after another, by a loop of turns: from `from` to `into`, which then change places. The invariant: the words
-- of a typed term stand in front of `from`, and what the definition makes of the first term is what it makes of this one
-- with the budget that is left, behind the steps taken. The measure is the budget that is left.
use Rattle.simplify.proofs.Turns.{Looping}
use Rattle.simplify.proofs.reduce.reduce.Given as goal

abbrev pub invariant-loop-words : goal.invariant-loop-words
invariant-loop-words l = Looping l.fn.one l.initial.output l.budget l.from l.into l.output l.n l.left

abbrev pub decreases-loop-words : goal.decreases-loop-words
decreases-loop-words l = l.left
