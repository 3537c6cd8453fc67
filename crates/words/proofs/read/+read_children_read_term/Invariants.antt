-- `read_term` and `read_children` read a term and terms in a row, by recursion on one another and a loop over the
-- terms. The invariant: the answer of the terms left, from `next` on, is that of all, from `at` on. The measure of the
-- recursion is twice the number of words left, and one more for the children; that of the loop, the number of words
-- left.
use Prim.Native.Nat.{ℕ, ◌+◌, ◌-◌, ◌*◌, ◌≤◌}
use lib.ListN.{length}
use Rattle.logic.specs.Result.{Result}
use Rattle.words.proofs.Parses.{ReadsRow}
use Rattle.words.proofs.read.+read_children_read_term.Given as goal

-- the answer for the terms that are left is the answer
abbrev pub invariant-read_children-loop-left : goal.invariant-read_children-loop-left
invariant-read_children-loop-left l =
    (l.at ≤ l.next) × (l.next ≤ length l.words) × ((r : Result ℕ) → ReadsRow l.words l.left l.next r → ReadsRow l.words l.n l.at r)

abbrev pub decreases-read_children-loop-left : goal.decreases-read_children-loop-left
decreases-read_children-loop-left l = length l.words - l.next

abbrev pub decreases-read_children : goal.decreases-read_children
decreases-read_children l = 2 * (length l.words.now - l.at) + 1

abbrev pub decreases-read_term : goal.decreases-read_term
decreases-read_term l = 2 * (length l.words.now - l.at)
