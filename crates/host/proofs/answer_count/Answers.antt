-- What a call answers that gives a count, as one number.
use mathlib.Core.Path.{ap}
use Rattle.logic.specs.Answer.{answer as told}
use Rattle.host.proofs.answer_count.Goals as goal

pub code-requires : goal.code-requires
code-requires c = c.requires _ _ (ap told c.in-Err.is)
