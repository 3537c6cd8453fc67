-- `skip` gives where a term ends, by a loop over words. The invariant: as many terms as are counted stand in a row from
-- `next` on, and end where the term ends. The measure is the number of words behind `next`.
use Prim.Native.Nat.{◌+◌, ◌-◌}
use native.Mathlib.Omega.{arith}
use mathlib.Core.Path.{sym, subst, ◌∙◌}
use Rattle.std.specs.Prelude.{IsSome}
use Rattle.logic.specs.Term.{Term, size}
use Rattle.logic.proofs.Words.{size_pos}
use Rattle.words.specs.Place.{At}
use Rattle.words.proofs.Places.{at_end}
use Rattle.words.proofs.Rows.{TermsLeft, left_start, left_children, left_few, left_none, left_next}
use Rattle.parts.proofs.skip.Goals as goal

pub loop-count-init : goal.loop-count-init
loop-count-init c =
    let h = c.requires.here in
    let e = at_end h in
    let p = size_pos c.requires.term in
    (omega arith, λ t g. left_start g)

pub unwrap-requires : goal.unwrap-requires
unwrap-requires c = subst IsSome (sym c.children.ensures) (left_children c.loop-count-test.true (c.loop-count.invariant.1 _ c.requires.here))

pub loop-count-preserved : goal.loop-count-preserved
loop-count-preserved c =
    let l = c.loop-count in
    let more : (t : Term) → At c.args.words.now c.args.at t → TermsLeft c.args.words.now (l.next + 1) (l.count - 1 + c.unwrap.result)
    (c.args.at + size t) = λ t g. left_next c.unwrap.result c.loop-count-test.true (sym c.children.ensures ∙ c.unwrap.ensures) (l.invariant.1 t g) in
    let f = left_few (more c.requires.term c.requires.here) in
    let e = at_end c.requires.here in
    (omega arith, more)

pub returns : goal.returns
returns c = λ t h. left_none (c.loop-count.invariant.1 t h) c.loop-count-test.false
