-- Where the step has no words the refusal is put; else the first line, and behind it the words.
use native.Mathlib.Omega.{arith}
use Rattle.decimal.proofs.Puts.{put_is}
use Rattle.write_homes.proofs.Prints.{stepped_none, stepped_front, front_shown}
use Rattle.write_homes.proofs.print.print.Goals as goal

pub returns-in_default : goal.returns-in_default
returns-in_default c = put_is _ _ _ _ _ _ (stepped_none _ c.step.ensures c.in_default.is) c.put.ensures

pub slice_bounds-words-end : goal.slice_bounds-words-end
slice_bounds-words-end c = (stepped_front _ _ c.step.ensures c.in-Some.is).within

pub slice_bounds-put_fields-end : goal.slice_bounds-put_fields-end
slice_bounds-put_fields-end c = (stepped_front _ _ c.step.ensures c.in-Some.is).count

pub put_fields-requires : goal.put_fields-requires
put_fields-requires c =
    let f = stepped_front _ _ c.step.ensures c.in-Some.is in
    omega (arith, f.count, f.within, c.put-to.ensures.end)

pub returns : goal.returns
returns c = front_shown _ c.in-Some.n _ (stepped_front _ _ c.step.ensures c.in-Some.is) c.put-to.ensures c.put_fields.ensures
