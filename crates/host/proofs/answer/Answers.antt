-- What a call answers that gives no value, as one number.
use mathlib.Core.Path.{ap}
use Rattle.logic.specs.Answer.{answer as told}
use Rattle.host.proofs.answer.Goals as goal

pub code-requires : goal.code-requires
code-requires c = c.requires _ _ (ap told c.in-Err.is)
