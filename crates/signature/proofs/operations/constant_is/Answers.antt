-- `constant_is` compares a constant's type with words: there is no such constant, or the words that the table points at
-- decide.
use native.Mathlib.Omega.{arith}
use mathlib.Core.Path.{refl}
use Rattle.words.proofs.Places.{at_end}
use Rattle.rules.proofs.Atoms.{constant_placed}
use Rattle.signature.proofs.Permits.{no_such_constant, compared}
use Rattle.signature.proofs.operations.constant_is.Goals as goal

pub returns-then-table-i : goal.returns-then-table-i
returns-then-table-i c = λ Σ A d w g. no_such_constant c.args.i A c.if-table-i.true d

pub overflow_sub-end : goal.overflow_sub-end
overflow_sub-end c =
    let here = constant_placed c.args.i c.if-table-i.false c.requires.declared in
    omega (arith, here.behind)

pub bounds-sig-start : goal.bounds-sig-start
bounds-sig-start c =
    let here = constant_placed c.args.i c.if-table-i.false c.requires.declared in
    omega (arith, here.behind, at_end here.here)

pub slice_bounds-same-end : goal.slice_bounds-same-end
slice_bounds-same-end c =
    let here = constant_placed c.args.i c.if-table-i.false c.requires.declared in
    omega (arith, here.words, at_end here.here)

pub returns : goal.returns
returns c =
    λ Σ A d w g. compared (constant_placed c.args.i c.if-table-i.false d) A c.args.words.now _ c.same.result refl w g c.same.ensures
