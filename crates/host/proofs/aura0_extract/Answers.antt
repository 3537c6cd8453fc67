-- Extract, and its answer as one number.
use lib.ListN.{length}
use native.Mathlib.Omega.{arith}
use Rattle.register.specs.Records.{ask_of}
use Rattle.shared_tests.specs.Shared.{lent_of}
use Rattle.extract.specs.Extract.{extract_call}
use Rattle.host.proofs.Codes.{told_fits, extract_fits}
use Rattle.host.proofs.aura0_extract.Goals as goal

pub answer-requires : goal.answer-requires
answer-requires c =
    let l = lent_of c.args.signature.now c.args.n c.args.workspace.now in
    let k = ask_of c.args.operation c.args.extract c.args.delivery c.args.day c.args.proof.now in
    told_fits (extract_call l c.args.register.now k c.args.homes.now c.args.surveys.now (length c.args.output.now)) _ c.extract.ensures.answer
    (λ m p. extract_fits l c.args.register.now k c.args.homes.now c.args.surveys.now (length c.args.output.now) m p (omega (arith, c.well_formed)))
