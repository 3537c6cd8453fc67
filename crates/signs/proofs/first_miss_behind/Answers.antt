-- The Signs of a term in word order. The invariant: from word i on the words left decide, no Sign before is refused.
use mathlib.Core.Path.{◌∙◌, ap}
use native.Mathlib.Omega.{arith}
use Rattle.std.proofs.Common.{rules}
use Rattle.logic.proofs.Answers.{refusal}
use Rattle.signs.proofs.Scans.{ends_within, scanning_start, scanning_other, scanning_sign, scanning_next, scanning_found, scanning_end}
use Rattle.signs.proofs.first_miss_behind.Goals as goal
use Rattle.signs.proofs.first_miss_behind.Goals.{then-eq+in-Covered, else-eq}

pub loop-i-init : goal.loop-i-init
loop-i-init c = scanning_start

pub skip-end-requires : goal.skip-end-requires
skip-end-requires c = scanning_sign c.loop-i.invariant c.loop-i-test.true (search rules) c.requires.0 c.requires.2 c.requires.3

pub slice_bounds-find_behind-count : goal.slice_bounds-find_behind-count
slice_bounds-find_behind-count c =
    omega (arith, ends_within (scanning_sign c.loop-i.invariant c.loop-i-test.true (search rules) c.requires.0 c.requires.2 c.requires.3) c.skip-end.ensures)

pub slice_bounds-find_behind-start : goal.slice_bounds-find_behind-start
slice_bounds-find_behind-start c =
    omega (arith, ends_within (scanning_sign c.loop-i.invariant c.loop-i-test.true (search rules) c.requires.0 c.requires.2 c.requires.3) c.skip-end.ensures)

pub slice_bounds-find_behind-end : goal.slice_bounds-find_behind-end
slice_bounds-find_behind-end c =
    omega (arith, ends_within (scanning_sign c.loop-i.invariant c.loop-i-test.true (search rules) c.requires.0 c.requires.2 c.requires.3) c.skip-end.ensures)

pub returns-in-Lapsed : goal.returns-in-Lapsed
returns-in-Lapsed c = λ rs ks t f b is.
    ap refusal c.at.ensures
    ∙ scanning_found c.loop-i.invariant c.loop-i-test.true (search rules) _ c.payload_of.ensures c.skip-end.ensures c.find_behind-found.ensures (search rules)
    rs ks t f b is

pub returns-in-Unheld : goal.returns-in-Unheld
returns-in-Unheld c = λ rs ks t f b is.
    ap refusal c.at-in-Unheld.ensures
    ∙ scanning_found c.loop-i.invariant c.loop-i-test.true (search rules) _ c.payload_of.ensures c.skip-end.ensures c.find_behind-found.ensures (search rules)
    rs ks t f b is

pub loop-i-preserved : goal.loop-i-preserved
loop-i-preserved c = elim c.if-eq.branch [
  | then-eq+in-Covered w ↦
      scanning_next c.loop-i.invariant c.loop-i-test.true (search rules) _ w.payload_of.ensures w.skip-end.ensures w.find_behind-found.ensures (search rules)
  | else-eq w ↦ scanning_other c.loop-i.invariant c.loop-i-test.true (search rules)
]

pub returns : goal.returns
returns c = scanning_end c.loop-i.invariant (omega arith)
