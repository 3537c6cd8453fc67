-- The shared tests, and 23.
use mathlib.Core.Path.{sym, ap, ◌∙◌}
use Rattle.logic.specs.Answer.{answer}
use Rattle.register.specs.Calls.{day_test}
use Rattle.register.specs.Batch.{at_index, all_granted}
use Rattle.shared_tests.proofs.OwnTests.{not_prepared}
use Rattle.batch_tests.proofs.TestsInTurn.{batch_handed_on}
use Rattle.batch_tests.proofs.idle.Goals as goal

pub returns-in_err-prepare : goal.returns-in_err-prepare
returns-in_err-prepare c =
    batch_handed_on _ _ c.from_residual.ensures
    ∙ sym (ap (λ r. at_index 0 r all_granted) (not_prepared _ _ _ _ (day_test c.args.day) c.prepare.ensures _ _ (ap answer c.in_err-prepare.was)))
