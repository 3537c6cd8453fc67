-- `operations` tests the permits and receipts, by a loop over operations. The invariant: the operations below `i` have
-- theirs.
use mathlib.Core.Path.{refl, sym, ◌∙◌}
use Rattle.logic.specs.Term.{P, S, Pi, encode}
use Rattle.logic.specs.Reading.{InRange}
use Rattle.signature.proofs.Permits.{no_permit, no_receipt, no_operations, one_operation}
use Rattle.signature.proofs.operations.operations.Goals as goal
use Rattle.signature.proofs.operations.operations.Goals.{then-not-constant_is-via-then-not-constant_is}
use Rattle.signature.proofs.operations.operations.Goals.{then-not-constant_is-via-else-not-constant_is+then-not-constant_is-2}

pub loop-i-init : goal.loop-i-init
loop-i-init c = λ Σ d. no_operations Σ

pub returns-then-not-constant_is : goal.returns-then-not-constant_is
unfolding InRange encode
returns-then-not-constant_is c = λ Σ d. elim c.then-not-constant_is.branch [
  | then-not-constant_is-via-then-not-constant_is w ↦ no_permit Σ c.args.n c.loop-i.i c.loop-i-test.true
      (sym (c.constant_is.ensures Σ (Pi S P) d refl (tt, tt)) ∙ w.if-not-constant_is.true)
  | then-not-constant_is-via-else-not-constant_is+then-not-constant_is-2 w ↦ no_receipt Σ c.args.n c.loop-i.i c.loop-i-test.true
      (sym (w.constant_is-else-not-constant_is.ensures Σ (Pi S (Pi S P)) d refl (tt, (tt, tt))) ∙ w.if-not-constant_is-2.true)
]

pub loop-i-preserved : goal.loop-i-preserved
unfolding InRange encode
loop-i-preserved c = λ Σ d.
    one_operation Σ c.loop-i.i (c.loop-i.invariant Σ d) (sym (c.constant_is.ensures Σ (Pi S P) d refl (tt, tt)) ∙ c.if-not-constant_is.false)
    (sym (c.constant_is-else-not-constant_is.ensures Σ (Pi S (Pi S P)) d refl (tt, (tt, tt))) ∙ c.if-not-constant_is-2.false)
