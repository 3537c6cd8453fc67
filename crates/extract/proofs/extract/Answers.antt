-- Three ways out: the form is broken, the request is refused, or it is granted and the homes are written.
use mathlib.Core.Path.{refl, sym, ap, ◌∙◌}
use Rattle.logic.specs.Answer.{answer}
use Rattle.logic.proofs.Answers.{refusal, handed_on}
use Rattle.extract.proofs.Extracts.{broken_form, then_requested, left_by}
use Rattle.extract.proofs.extract.Goals as goal

pub returns-then-not-well_formed : goal.returns-then-not-well_formed
returns-then-not-well_formed c =
    left_by _ (broken_form _ _ _ _ _ _ (sym c.well_formed-2.ensures ∙ c.if-not-well_formed.true)) (ap refusal c.at.ensures) refl refl

pub join-requires : goal.join-requires
join-requires c = sym c.well_formed-2.ensures ∙ c.if-not-well_formed.false

pub returns-in_err-request : goal.returns-in_err-request
returns-in_err-request c =
    let e = sym c.request.ensures.answer ∙ ap answer c.in_err-request.was in
    left_by _ (then_requested _ _ _ _ _ _ (sym c.well_formed-2.ensures ∙ c.if-not-well_formed.false) e) (handed_on _ _ c.from_residual.ensures)
    (rw e at c.request.ensures.register) refl

pub returns : goal.returns
returns c =
    let e = sym c.request.ensures.answer ∙ ap answer c.in_ok-request.was in
    left_by _ (then_requested _ _ _ _ _ _ (sym c.well_formed-2.ensures ∙ c.if-not-well_formed.false) e) refl (rw e at c.request.ensures.register)
    c.join.ensures
