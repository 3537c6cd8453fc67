-- The answer of `judge`, handed back as a part of the workspace.
use mathlib.Core.Path.{sym, ap}
use lib.Seq.{length-take-le}
use Rattle.logic.specs.Answer.{answer}
use Rattle.shared_tests.proofs.OwnTests.{words_within, type_refused}
use Rattle.check_call.proofs.Checks.{handed_type, refused_by}
use Rattle.check_call.proofs.check.Goals as goal

pub returns-in_err-typed-clause-refusal : goal.returns-in_err-typed-clause-refusal
returns-in_err-typed-clause-refusal c = refused_by _ _ _ (type_refused _ _ _ _ c.judge.ensures (ap answer c.in_err-typed.was)) c.from_residual.ensures

pub slice_bounds-result-end : goal.slice_bounds-result-end
slice_bounds-result-end c =
    sym (length-take-le c.in_ok-typed.typed.words c.judge.new.ws (words_within _ _ _ _ c.judge.ensures _ (ap answer c.in_ok-typed.was)))

pub returns-clause-part : goal.returns-clause-part
returns-clause-part c = handed_type _ _ c.judge.ensures (ap answer c.in_ok-typed.was)
