-- The answer of `uses` as one number, with the count.
use mathlib.Core.Path.{sym, ◌∙◌}
use native.Mathlib.Omega.{arith}
use Rattle.host.proofs.Codes.{uses_fits}
use Rattle.host.proofs.aura0_uses.Goals as goal

pub answer_count-requires : goal.answer_count-requires
answer_count-requires c = λ m p e. uses_fits c.args.from c.args.term.now m p (omega (arith, c.well_formed)) (sym c.uses.ensures ∙ e)
