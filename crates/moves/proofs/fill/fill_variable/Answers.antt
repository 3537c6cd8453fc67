-- Where a variable stands: the filler is written, or the variable as it is, or one lower, or there is no room.
use Prim.Native.Nat.{◌<◌, ◌^◌}
use native.Mathlib.Omega.{arith}
use mir.Syntax.{w32}
use mir.Facts.{to_z_pos}
use Rattle.logic.specs.Term.{var}
use Rattle.words.proofs.Places.{size_is, at_within}
use Rattle.moves.proofs.Fills.{same_done, same_over, none_over, low_done, high_done}
use Rattle.moves.proofs.fill.fill_variable.Goals as goal
use Rattle.moves.proofs.fill.fill_variable.Goals.{then-n-c-2, else-n-c-2}

pub offset_bounds-src-at : goal.offset_bounds-src-at
offset_bounds-src-at c = let w = at_within c.requires.1.here in omega arith

pub bounds-src-at : goal.bounds-src-at
bounds-src-at c = at_within c.requires.1.here

pub overflow_add-result : goal.overflow_add-result
overflow_add-result c = let w = at_within c.requires.1.here in omega arith

pub overflow_add-result-then-n-c : goal.overflow_add-result-then-n-c
overflow_add-result-then-n-c c =
    let p = c.requires.1 in
    let e = (c.shift_into-raised.ensures p.filler p.lends).words_are in
    let l = size_is c.args.filler.now p.filler p.lends in
    omega arith

pub overflow_add-result-2 : goal.overflow_add-result-2
overflow_add-result-2 c = let w = at_within c.requires.1.here in omega arith

pub returns-then-out-to : goal.returns-then-out-to
returns-then-out-to c =
    let a = c.args in
    λ m e h i. same_over a.src.now a.filler.now a.at a.c a.out.now a.to _ c.requires.0 c.payload_of-n.ensures m e h i c.if-out-to.true c.if-n-c.true

pub returns-then-n-c : goal.returns-then-n-c
returns-then-n-c c =
    let h : c.args.c < 2 ^ 31 = omega (arith, c.requires.1.deep) in
    let a = c.args in
    λ m e h' i. same_done a.src.now a.filler.now a.at a.c a.out.now a.to _ c.requires.0 c.payload_of-n.ensures m e h' i _
    c.shift_into-raised.result (to_z_pos w32 h) c.if-out-to.false c.if-n-c.true (c.shift_into-raised.ensures e i)

pub returns-then-out-to-2 : goal.returns-then-out-to-2
returns-then-out-to-2 c = λ m e h i. none_over (var m) _ c.args.at c.args.out.now c.args.to c.if-out-to-2.true

pub returns : goal.returns
returns c =
    let a = c.args in
    λ m e h i. elim c.if-n-c-2.branch [
      | then-n-c-2 w ↦ low_done a.src.now a.filler.now a.at a.c a.out.now a.to _ c.requires.0 c.payload_of-n.ensures m e h i _ w.out-is
          c.if-out-to-2.false w.if-n-c-2.true
      | else-n-c-2 w ↦ high_done a.src.now a.filler.now a.at a.c a.out.now a.to _ c.requires.0 c.payload_of-n.ensures m e h i _ w.out-is
          c.if-out-to-2.false w.if-n-c-2.false c.if-n-c.false
    ]
