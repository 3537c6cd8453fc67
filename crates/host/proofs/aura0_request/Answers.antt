-- Request, and its answer as one number.
use mathlib.Core.Path.{sym, ◌∙◌}
use native.Mathlib.Omega.{arith}
use Rattle.register.specs.Records.{ask_of}
use Rattle.shared_tests.specs.Shared.{lent_of}
use Rattle.host.proofs.Codes.{request_fits}
use Rattle.host.proofs.aura0_request.Goals as goal

pub answer-requires : goal.answer-requires
answer-requires c =
    λ m p e. request_fits (lent_of c.args.signature.now c.args.n c.args.workspace.now) c.args.register.now
    (ask_of c.args.operation c.args.extract c.args.delivery c.args.day c.args.proof.now) m p (omega (arith, c.well_formed)) (sym c.request.ensures.answer ∙ e)
