-- Steps one after another, by a loop of turns.
use mathlib.Core.Path.{refl, ap, subst, ◌∙◌}
use native.Mathlib.Omega.{arith}
use lib.ListN.{length}
use lib.Seq.{take-length}
use Rattle.logic.specs.Result.{ok}
use Rattle.logic.specs.Answer.{answer}
use Rattle.logic.proofs.Answers.{refusal, handed_on}
use Rattle.words.specs.Place.{At}
use Rattle.simplify.proofs.Turns.{first_turn, some_left, next_turn, last_turn, refused_turn, turnable, lent_turn, changed}
use Rattle.simplify.proofs.Calls.{told_refused, result_short, result_written}
use Rattle.simplify.proofs.reduce.reduce.Goals as goal

pub loop-words-init : goal.loop-words-init
loop-words-init c =
    record { turn = first_turn c.args.budget c.requires.subject; just = c.requires.just; just_other = c.requires.just_other; same_output = refl }

pub take_step-requires : goal.take_step-requires
take_step-requires c = let i = c.loop-words.invariant in turnable (lent_turn i.turn) (ap length (take-length c.loop-words.into.now) ∙ i.just_other)

pub returns-in_err-words : goal.returns-in_err-words
returns-in_err-words c =
    let T = lent_turn c.loop-words.invariant.turn in
    let k = c.take_step.ensures T.subject.term T.subject.here in
    λ t h. told_refused _ (refused_turn T k _ _ (ap answer c.in_err-words.was) (length c.args.output.now) t h) (handed_on _ _ c.from_residual.ensures)

pub overflow_sub-left : goal.overflow_sub-left
overflow_sub-left c =
    let T = lent_turn c.loop-words.invariant.turn in
    some_left T (c.take_step.ensures T.subject.term T.subject.here) (ap answer c.in_ok-words.was ∙ ap ok c.in-Some.is)

pub loop-words-smaller : goal.loop-words-smaller
loop-words-smaller c =
    let T = lent_turn c.loop-words.invariant.turn in
    let l = some_left T (c.take_step.ensures T.subject.term T.subject.here) (ap answer c.in_ok-words.was ∙ ap ok c.in-Some.is) in
    omega arith

pub loop-words-preserved : goal.loop-words-preserved
loop-words-preserved c =
    let T = lent_turn c.loop-words.invariant.turn in
    let N = next_turn T (c.take_step.ensures T.subject.term T.subject.here) (ap answer c.in_ok-words.was ∙ ap ok c.in-Some.is) in
    changed c.loop-words.invariant N (c.take_step.auto.into ∙ ap length (take-length c.loop-words.into.now))
    (ap (λ m. m.now) c.swap.ensures.x_after) (ap (λ m. m.now) c.swap.ensures.y_after)

pub returns-then-output-n : goal.returns-then-output-n
returns-then-output-n c =
    let T = lent_turn c.loop-words.invariant.turn in
    let k = c.take_step.ensures T.subject.term T.subject.here in
    λ t h. result_short _ c.args.output.now T.subject.term
    (last_turn T k (ap answer c.in_ok-words.was ∙ ap ok c.in_default.is) (length c.args.output.now) t h) _ (omega (arith, T.subject.count))
    (ap refusal c.at.ensures)

pub returns : goal.returns
returns c =
    let T = lent_turn c.loop-words.invariant.turn in
    let k = c.take_step.ensures T.subject.term T.subject.here in
    λ t h. result_written _ c.args.output.now T.subject.term
    (last_turn T k (ap answer c.in_ok-words.was ∙ ap ok c.in_default.is) (length c.args.output.now) t h) _
    (subst (λ l. At l 0 T.subject.term) (take-length c.loop-words.from.now) T.subject.here) T.subject.count (omega arith) c.copy_all.ensures
