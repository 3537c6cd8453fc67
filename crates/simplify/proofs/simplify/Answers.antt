-- The call: check's tests, then the steps on a copy of the term, with the front of the workspace for the other copy.
use Prim.Native.Nat.{ℕ}
use native.Mathlib.Omega.{arith}
use mathlib.Core.Path.{sym, ap}
use lib.ListN.{length}
use lib.Seq.{length-take-le}
use Rattle.std.proofs.lemmas.List.{length-replicate}
use Rattle.logic.specs.Answer.{answer}
use Rattle.logic.specs.Limits.{most_words}
use Rattle.logic.proofs.Answers.{handed_on}
use Rattle.register.specs.Calls.{Lent, check_call}
use Rattle.shared_tests.specs.Shared.{lent_by}
use Rattle.shared_tests.proofs.OwnTests.{type_refused}
use Rattle.simplify.proofs.Calls.{CheckPassed, check_passed, not_checked, simplified, term_short, term_at, subject_of, filled}
use Rattle.simplify.proofs.simplify.Goals as goal

pub returns-in_err-judge : goal.returns-in_err-judge
returns-in_err-judge c =
    let l : Lent = lent_by c.args.signature c.args.ws.now in
    let a = c.args in
    not_checked l a.register.now a.day a.term.now a.budget a.output.now _
    (type_refused (check_call l a.register.now a.day a.term.now) _ _ _ c.judge.ensures (ap answer c.in_err-judge.was)) (handed_on _ _ c.from_residual.ensures)

pub slice_bounds-reduce-end-3 : goal.slice_bounds-reduce-end-3
slice_bounds-reduce-end-3 c =
    let l : Lent = lent_by c.args.signature c.args.ws.now in
    let k : CheckPassed l c.args.register.now c.args.day c.args.term.now = check_passed _ c.judge.ensures (ap answer c.in_ok-judge.was) in
    sym (length-take-le most_words c.judge.new.ws (omega (arith, k.checked.ready.workspace, c.judge.auto.ws)))

pub reduce-requires : goal.reduce-requires
reduce-requires c =
    let l : Lent = lent_by c.args.signature c.args.ws.now in
    let k : CheckPassed l c.args.register.now c.args.day c.args.term.now = check_passed _ c.judge.ensures (ap answer c.in_ok-judge.was) in
    record {
      subject = subject_of k.checked _ c.copy_from_slice.ensures.after;
      just = filled _ _ _ (ap length c.copy_from_slice.ensures.after) (length-replicate {A = ℕ} most_words 0) (term_short k.checked);
      just_other = length-take-le most_words c.judge.new.ws (omega (arith, k.checked.ready.workspace, c.judge.auto.ws));
    }

pub returns : goal.returns
returns c =
    let l : Lent = lent_by c.args.signature c.args.ws.now in
    let k : CheckPassed l c.args.register.now c.args.day c.args.term.now = check_passed _ c.judge.ensures (ap answer c.in_ok-judge.was) in
    let a = c.args in
    simplified l a.register.now a.day a.term.now a.budget a.output.now k.checked
    (c.reduce.ensures k.checked.t (term_at k.checked _ c.copy_from_slice.ensures.after))
