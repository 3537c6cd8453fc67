-- A turn: the first step is looked for, and its result is formed and held against the limits. The room for it is just
-- that of the longest term, so a result without room is too long.
use mathlib.Core.Path.{sym, ap, ◌∙◌}
use native.Mathlib.Omega.{arith}
use Rattle.logic.specs.Answer.{answer}
use Rattle.logic.specs.Refusals.{term_length}
use Rattle.logic.proofs.Answers.{refusal, handed_on}
use Rattle.steps.specs.Redex.{redex_answer}
use Rattle.steps.proofs.Sites.{not_taken}
use Rattle.simplify.proofs.Taking.{taken, stepped_over, limit_words, limit_nesting, limits_passed}
use Rattle.simplify.proofs.Taking.{turn_settled, turn_used, turn_limited, turn_stepped, formed}
use Rattle.simplify.proofs.reduce.take_step.Goals as goal

pub returns-in_default : goal.returns-in_default
returns-in_default c =
    let p = c.requires in
    turn_settled c.args.left p.here (not_taken 0 p.term (sym (c.first_step.ensures p.term p.here) ∙ ap redex_answer c.in_default.is))

pub returns-then-left-eq0 : goal.returns-then-left-eq0
returns-then-left-eq0 c =
    let p = c.requires in
    let step = taken p c.first_step.ensures c.in-Some.is in
    turn_used c.args.left p.here step.step _ c.if-left-eq0.true (ap refusal c.at.ensures)

pub returns-in_default-step_into : goal.returns-in_default-step_into
returns-in_default-step_into c =
    let p = c.requires in
    let step = taken p c.first_step.ensures c.in-Some.is in
    let o = stepped_over (c.step_into.ensures p.term step.u p.here step.step) c.in_default-step_into.is in
    turn_limited c.args.left p.here step.step c.if-left-eq0.false term_length 0 _
    (limit_words step.u (omega (arith, o, c.first_step.auto.scratch, p.just))) (ap refusal c.at-in_default-step_into.ensures)

pub nested-requires : goal.nested-requires
nested-requires c =
    let p = c.requires in
    let step = taken p c.first_step.ensures c.in-Some.is in
    let f = formed p step.step (c.first_step.auto.scratch ∙ p.just) (c.step_into.ensures p.term step.u p.here step.step) c.in-Some-step_into.is in
    record { term = step.u; here = f.here }

pub returns-in_err-nested : goal.returns-in_err-nested
returns-in_err-nested c =
    let p = c.requires in
    let step = taken p c.first_step.ensures c.in-Some.is in
    let f = formed p step.step (c.first_step.auto.scratch ∙ p.just) (c.step_into.ensures p.term step.u p.here step.step) c.in-Some-step_into.is in
    turn_limited c.args.left p.here step.step c.if-left-eq0.false _ _ _
    (limit_nesting step.u _ _ f.small (sym (c.nested.ensures step.u f.here) ∙ ap answer c.in_err-nested.was)) (handed_on _ _ c.from_residual.ensures)

pub returns : goal.returns
returns c =
    let p = c.requires in
    let step = taken p c.first_step.ensures c.in-Some.is in
    let f = formed p step.step (c.first_step.auto.scratch ∙ p.just) (c.step_into.ensures p.term step.u p.here step.step) c.in-Some-step_into.is in
    turn_stepped c.args.left p.here step.step c.if-left-eq0.false
    (limits_passed step.u _ f.small (sym (c.nested.ensures step.u f.here) ∙ ap answer c.in_ok-nested.was)) f.count f.here
