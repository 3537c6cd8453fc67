-- Nothing is written before the last test of the last item has passed.
use mathlib.Core.Path.{sym, ap, ◌∙◌}
use Rattle.shared_tests.specs.Shared.{lent_by}
use Rattle.batch_tests.specs.Answers.{batched_answer}
use Rattle.batch.proofs.GrantsInTurn.{batch_left, granted_all}
use Rattle.batch.proofs.batch.Goals as goal

pub grant_items-requires : goal.grant_items-requires
grant_items-requires c =
    granted_all (lent_by c.args.signature c.args.ws.now) _ _ _ (sym c.testable.ensures ∙ ap batched_answer c.in_ok-testable.was)

pub returns : goal.returns
returns c = batch_left _ _ _ _ (sym c.testable.ensures ∙ ap batched_answer c.in_ok-testable.was) c.grant_items.ensures
