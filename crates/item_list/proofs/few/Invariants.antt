-- The items counted. The invariant: so many whole items stand before the place.
use Prim.Native.Nat.{◌≤◌}
use lib.ListN.{length}
use Rattle.item_list.proofs.ItemPlaces.{Counted}
use Rattle.item_list.proofs.few.Given as goal

abbrev pub invariant-loop : goal.invariant-loop
invariant-loop l = (l.at ≤ length l.items) × Counted l.items l.at l.counter
