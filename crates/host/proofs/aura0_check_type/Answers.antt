-- Check, and its answer as one number, with how many words the type has.
use mathlib.Core.Path.{ap}
use native.Mathlib.Omega.{arith}
use Rattle.logic.specs.Answer.{answer}
use Rattle.shared_tests.specs.Shared.{lent_of}
use Rattle.shared_tests.proofs.OwnTests.{type_refused}
use Rattle.host.proofs.Codes.{check_fits, typed_to, refused_to}
use Rattle.host.proofs.aura0_check_type.Goals as goal

pub code-requires : goal.code-requires
code-requires c =
    check_fits (lent_of c.args.signature.now c.args.n c.args.workspace.now) c.args.register.now c.args.day c.args.term.now (omega (arith, c.well_formed))
    (type_refused _ _ _ _ c.judge.ensures (ap answer c.in-Err.is))

pub returns-in-Ok : goal.returns-in-Ok
returns-in-Ok c = typed_to _ _ _ _ c.judge.ensures _ (ap answer c.in-Ok.is)

pub returns-in-Err : goal.returns-in-Err
returns-in-Err c = refused_to _ _ _ _ c.judge.ensures (ap answer c.in-Err.is) _ c.code.ensures
