-- `derive` gives the type of a term, by recursion on its children: a return for each kind of leaf, for a Sign, and
-- for each of the four ways that the rule of a node ends. The measure is the nesting left.
use Rattle.typing.proofs.derive.+derive.Given as goal

-- the nesting left
abbrev pub decreases-derive : goal.decreases-derive
decreases-derive l = l.left
