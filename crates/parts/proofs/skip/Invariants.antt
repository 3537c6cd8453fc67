-- `skip` gives where a term ends, by a loop over words. The invariant: as many terms as are counted stand in a row from
-- `next` on, and end where the term ends. The measure is the number of words behind `next`.
use Prim.Native.Nat.{◌+◌, ◌-◌, ◌≤◌}
use lib.ListN.{length}
use Rattle.logic.specs.Term.{Term, size}
use Rattle.words.specs.Place.{At}
use Rattle.words.proofs.Rows.{TermsLeft}
use Rattle.parts.proofs.skip.Given as goal

abbrev pub invariant-loop-count : goal.invariant-loop-count
invariant-loop-count l = (l.next + l.count ≤ length l.words) × ((t : Term) → At l.words l.at t → TermsLeft l.words l.next l.count (l.at + size t))

abbrev pub decreases-loop-count : goal.decreases-loop-count
decreases-loop-count l = length l.words - l.next
