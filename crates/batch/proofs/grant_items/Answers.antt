-- The grants one after another.
use native.Mathlib.Omega.{arith}
use Rattle.item_list.proofs.ItemPlaces.{whole_there}
use Rattle.batch.proofs.GrantsInTurn.{granting_start, granting_next, room_left, grants_ended}
use Rattle.batch.proofs.grant_items.Goals as goal

pub loop-end-init : goal.loop-end-init
loop-end-init c = granting_start c.requires

pub ask_at-requires : goal.ask_at-requires
ask_at-requires c = let w = whole_there c.args.day _ _ (c.in-Some.ensures c.args.day) in (w.head, w.within)

pub add_grant-requires : goal.add_grant-requires
add_grant-requires c = room_left c.loop-end.invariant (whole_there _ _ _ (c.in-Some.ensures c.args.day)) c.ask_at.ensures

pub loop-end-smaller : goal.loop-end-smaller
loop-end-smaller c =
    let w = whole_there c.args.day c.args.items.now c.loop-end.at (c.in-Some.ensures c.args.day) in
    omega (arith, w.head, w.within)

pub loop-end-preserved : goal.loop-end-preserved
loop-end-preserved c = granting_next c.loop-end.invariant (whole_there _ _ _ (c.in-Some.ensures c.args.day)) c.ask_at.ensures c.add_grant.ensures

pub returns : goal.returns
returns c = grants_ended c.loop-end.invariant (c.in_default.ensures c.args.day)
