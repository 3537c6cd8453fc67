-- Simplify, and its answer as one number, with how many steps it took and how many words it wrote.
use mathlib.Core.Path.{ap}
use lib.ListN.{length}
use native.Mathlib.Omega.{arith}
use Rattle.logic.specs.Answer.{answer}
use Rattle.shared_tests.specs.Shared.{lent_of}
use Rattle.host.proofs.Codes.{simplified_to, unsimplified_is, not_simplified, simplify_fits}
use Rattle.host.proofs.aura0_simplify.Goals as goal

pub code-requires : goal.code-requires
code-requires c =
    simplify_fits (lent_of c.args.signature.now c.args.n c.args.workspace.now) c.args.register.now c.args.day c.args.term.now
    c.args.budget (length c.args.output.now) _ _
    (omega (arith, c.well_formed)) (unsimplified_is _ _ _ _ c.simplify.ensures (ap answer c.in-Err.is))

pub returns-in-Ok : goal.returns-in-Ok
returns-in-Ok c = simplified_to _ _ _ _ c.simplify.ensures _ (ap answer c.in-Ok.is)

pub returns-in-Err : goal.returns-in-Err
returns-in-Err c = not_simplified _ _ _ _ c.simplify.ensures (ap answer c.in-Err.is) _ c.code.ensures
