-- Document 02's trust in a whole property: on words by computation, and by the rules.
use mathlib.Core.Path.{refl}
use native.Mathlib.Decide.{ℕ_discrete}
use Rattle.logic.specs.Term.{size, encode}
use Rattle.logic.specs.Move.{shift, fill_at, occurs}
use Rattle.logic.specs.Infer.{infer, same_term, conclusion}
use Rattle.logic.specs.Reading.{read, too_deep}
use Rattle.logic.specs.SignatureList.{constants}
use Rattle.logic.specs.WholeProperty.{WholeProperty}
use Rattle.logic.proofs.Starred.{types}

pub whole_property : WholeProperty
unfolding infer same_term conclusion constants read too_deep shift fill_at occurs size encode ℕ_discrete
whole_property = record {
  of_home = types refl refl;
  identity = types refl refl;
  of_property = types refl refl;
  trusted = types refl refl;
  type_domain = refl;
  constant = refl;
  type_constant = refl;
}
