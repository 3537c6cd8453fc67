-- Check, and its refusal as one number.
use native.Mathlib.Omega.{arith}
use Rattle.shared_tests.specs.Shared.{lent_of}
use Rattle.host.proofs.Codes.{check_fits, refusal_of}
use Rattle.host.proofs.aura0_check.Goals as goal

pub code-requires : goal.code-requires
code-requires c =
    check_fits (lent_of c.args.signature.now c.args.n c.args.workspace.now) c.args.register.now c.args.day c.args.term.now (omega (arith, c.well_formed))
    (refusal_of _ c.in-Err.is c.check.ensures.refusal)
