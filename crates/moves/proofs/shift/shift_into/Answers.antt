-- The term's words are copied, so that it stands in `out`, and the shift there in place writes over as many words.
use Prim.Native.Nat.{◌<◌}
use native.Mathlib.Omega.{arith}
use lib.ListN.{length}
use mir.Facts.{to_z-of_z}
use Rattle.words.proofs.Places.{is_at, size_is, at_within}
use Rattle.moves.proofs.Shifts.{copy_stands, copy_shifted}
use Rattle.moves.proofs.shift.shift_into.Goals as goal

pub copy-requires : goal.copy-requires
copy-requires c =
    let inside : c.args.to < length c.args.out.now = omega (arith, at_within (is_at c.requires.whole), c.requires.fits) in
    (omega arith, omega arith)

pub shift_within-requires : goal.shift_within-requires
shift_within-requires c =
    let inside : c.args.to < length c.args.out.now = omega (arith, at_within (is_at c.requires.whole), c.requires.fits) in
    let p = c.requires in
    let b = size_is c.args.src.now p.term p.whole in
    let k = c.copy.auto.out in
    record {
      term = p.term;
      here = copy_stands c.args.src.now c.args.out.now _ c.args.to (omega arith) c.copy.ensures p.whole;
      fits = omega arith;
      deep = omega arith;
      near = rw (to_z-of_z c.ranges.amount) p.near;
    }

pub returns : goal.returns
returns c =
    let inside : c.args.to < length c.args.out.now = omega (arith, at_within (is_at c.requires.whole), c.requires.fits) in
    λ t i. copy_shifted c.args.src.now c.args.out.now _ c.args.to (omega arith) c.copy.ensures i
    (to_z-of_z c.ranges.amount) c.shift_within.ensures
