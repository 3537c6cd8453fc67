-- Say, and its answer as one number, with whether a record was added.
use mathlib.Core.Path.{ap}
use native.Mathlib.Omega.{arith}
use Rattle.logic.specs.Answer.{answer}
use Rattle.register.specs.Records.{statement_of}
use Rattle.shared_tests.specs.Shared.{lent_of}
use Rattle.host.proofs.Codes.{unsaid_is, say_fits}
use Rattle.host.proofs.aura0_say.Goals as goal

pub code-requires : goal.code-requires
code-requires c =
    let l = lent_of c.args.signature.now c.args.n c.args.workspace.now in
    let st = statement_of c.args.principal c.args.first c.args.last c.args.proposition.now in
    say_fits l c.args.register.now c.args.day st _ _ (omega (arith, c.well_formed))
    (unsaid_is l c.args.register.now c.args.day st _ c.say.result c.say.ensures (ap answer c.in-Err.is))
