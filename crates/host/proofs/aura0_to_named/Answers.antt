-- The answer of the conversion as one number, with how many words it wrote.
use lib.ListN.{length}
use native.Mathlib.Omega.{arith}
use Rattle.editions.specs.Convert.{to_named}
use Rattle.editions.specs.declared.Edition.TheVariants.{Counts}
use Rattle.host.proofs.Codes.{converted_to, mapped_fits, convert_fits}
use Rattle.host.proofs.aura0_to_named.Goals as goal

pub answer_count-requires : goal.answer_count-requires
answer_count-requires c =
    mapped_fits length (to_named c.args.term.now (length c.args.output.now)) _ c.to_named.ensures.answer
    (λ m p. convert_fits Counts c.args.term.now (length c.args.output.now) m p (omega (arith, c.well_formed)))

pub returns : goal.returns
returns c =
    converted_to (to_named c.args.term.now (length c.args.output.now)) _ _ _ _ _ c.to_named.ensures c.answer_count.ensures.answer c.answer_count.ensures.count
