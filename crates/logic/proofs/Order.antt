-- The order of tests 6 to 12, by computation.
use mathlib.Core.Path.{refl}
use native.Mathlib.Decide.{ℕ_discrete}
use Rattle.logic.specs.Term.{size, encode}
use Rattle.logic.specs.Move.{shift, fill_at, occurs}
use Rattle.logic.specs.Reading.{read, too_deep}
use Rattle.logic.specs.Infer.{infer, same_term, conclusion}
use Rattle.logic.specs.Order.{within_signs, large_proposition, large_kind, Order}

pub order : Order
unfolding infer same_term conclusion read too_deep shift fill_at occurs size encode ℕ_discrete within_signs large_proposition large_kind
order = record {
  length_then_words = refl;
  words_then_nesting = refl;
  nesting_then_check = refl;
  check = refl;
  first_child = refl;
  first_child_too = refl;
  principal_then_said = refl;
  domain_then_body = refl;
  domain_then_proof = refl;
  function_then_argument = refl;
  principal_then_proof = refl;
  proof_then_rest = refl;
  argument_then_both = refl;
  words = refl;
  lam_condition_then_measure = refl;
  ret_condition_then_measure = refl;
  sign_condition_then_measure = refl;
  say_condition_then_measure = refl;
  app_condition_then_measure = refl;
  sign_measure = refl;
  say_measure = refl;
}
