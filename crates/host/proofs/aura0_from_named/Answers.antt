-- The answer of the conversion as one number, with how many words it wrote.
use lib.ListN.{length}
use native.Mathlib.Omega.{arith}
use Rattle.editions.specs.Convert.{from_named}
use Rattle.editions.specs.declared.Edition.TheVariants.{Names}
use Rattle.host.proofs.Codes.{converted_to, mapped_fits, convert_fits}
use Rattle.host.proofs.aura0_from_named.Goals as goal

pub answer_count-requires : goal.answer_count-requires
answer_count-requires c =
    mapped_fits length (from_named c.args.term.now (length c.args.output.now)) _ c.from_named.ensures.answer
    (λ m p. convert_fits Names c.args.term.now (length c.args.output.now) m p (omega (arith, c.well_formed)))

pub returns : goal.returns
returns c =
    converted_to (from_named c.args.term.now (length c.args.output.now)) _ _ _ _ _
    c.from_named.ensures c.answer_count.ensures.answer c.answer_count.ensures.count
