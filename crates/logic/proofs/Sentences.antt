-- Document 01's section on typing with document 02's changes, a sentence at a time, by computation.
use mathlib.Core.Path.{refl}
use native.Mathlib.Decide.{ℕ_discrete}
use Rattle.logic.specs.Term.{size, encode}
use Rattle.logic.specs.Move.{shift, fill_at, occurs}
use Rattle.logic.specs.Reading.{read, too_deep, first_miss}
use Rattle.logic.specs.Infer.{infer, same_term, conclusion}
use Rattle.logic.specs.SignatureList.{constants}
use Rattle.logic.specs.Worked.{listed}
use Rattle.logic.specs.Sentences.{longer_proof, properties, Sentences}

pub sentences : Sentences
unfolding infer same_term conclusion read too_deep first_miss shift fill_at occurs size encode ℕ_discrete constants listed longer_proof properties
sentences = record {
  prop = refl;
  type = refl;
  string = refl;
  prin = refl;
  text = refl;
  name = refl;
  variable = refl;
  constant = refl;
  says = refl;
  says_by_string = refl;
  says_string = refl;
  says_kind = refl;
  pi_prop = refl;
  pi_kind = refl;
  pi_over_proofs = refl;
  pi_over_props = refl;
  pi_over_properties = refl;
  pi_over_properties_kind = refl;
  pi_over_types = refl;
  pi_over_string = refl;
  pi_of_type = refl;
  lam = refl;
  lam_over_properties = refl;
  lam_over_types = refl;
  lam_of_prop = refl;
  lam_of_property = refl;
  app = refl;
  app_raised = refl;
  app_of_string = refl;
  app_of_said = refl;
  app_of_sort = refl;
  app_to_principal = refl;
  app_to_prop = refl;
  signed = refl;
  sign_string = refl;
  sign_open = refl;
  ret = refl;
  ret_by_string = refl;
  ret_string = refl;
  bind = refl;
  bind_lowered = refl;
  bind_of_string = refl;
  bind_to_string = refl;
  bind_to_function = refl;
  bind_to_sort = refl;
  bind_by_other = refl;
  bind_escape = refl;
  bind_escape_by_other = refl;
  long_words = refl;
  long_node = refl;
  long_node_signed = refl;
  long_node_said = refl;
  long_node_constant = refl;
  constant_before = refl;
  constant_itself = refl;
  constant_behind = refl;
  missed_in_domain = refl;
  missed_in_proposition = refl;
  missed_in_principal = refl;
  missed_first = refl;
  none_missed = refl;
}
