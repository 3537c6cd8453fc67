-- `lend` makes tests 1, 2, 4 and 5 of open, which has no register to read.
use mathlib.Core.Path.{sym, ap, ◌∙◌}
use Rattle.logic.specs.Answer.{answer}
use Rattle.shared_tests.proofs.SharedTests.{lengths_fine, opened_as}
use Rattle.shared_tests.proofs.lend.Goals as goal

pub returns : goal.returns
returns c = opened_as _ _ _ _ (lengths_fine _ _ (sym c.lengths.ensures ∙ ap answer c.in_ok-lengths.was)) c.accept.ensures
