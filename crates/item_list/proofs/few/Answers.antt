-- The items counted. The invariant: so many whole items stand before the place.
use mathlib.Core.Path.{subst}
use native.Mathlib.Omega.{arith}
use Rattle.item_list.proofs.ItemPlaces.{counted_next, whole_there, last_counted, all_counted, Counted}
use Rattle.item_list.proofs.few.Goals as goal

pub returns-in_default : goal.returns-in_default
returns-in_default c = last_counted c.loop.invariant.1 c.loop-test.true c.in_default.ensures

pub loop-preserved : goal.loop-preserved
loop-preserved c =
    ((whole_there 0 _ _ (c.in-Some.ensures 0)).within, counted_next c.loop.invariant.1 (λ day. whole_there day _ _ (c.in-Some.ensures day)))

pub returns : goal.returns
returns c = all_counted (subst (Counted _ _) (omega arith) c.loop.invariant.1) c.loop.invariant.0
