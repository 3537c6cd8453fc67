-- One loop over homes and rows together. The invariant: writing the walk over the homes from k on and the rows left, behind
-- the homes that are written, gives what the whole walk gives. The measure: the homes left and the rows left. A turn takes one
-- of them, so there are at most as many turns as homes and rows.
use Rattle.std.proofs.Common.{◌≡◌, ◌+◌, ◌-◌, ◌*◌, ◌/◌, length, drop}
use Rattle.words.specs.Place.{written_at}
use Rattle.homes.proofs.Joins.{walked}
use Rattle.homes.proofs.join.Given as goal

abbrev pub invariant-loop-home : goal.invariant-loop-home
invariant-loop-home l = record {
  size : length l.out ≡ length l.initial.out;
  rest : written_at l.out (2 * l.k) (walked (drop l.k l.homes) l.left) ≡ written_at l.initial.out 0 (walked l.homes l.surveys);
}

abbrev pub decreases-loop-home : goal.decreases-loop-home
decreases-loop-home l = length l.homes - l.k + length l.left / 2
