-- The guards hold, by computing.
use mathlib.Core.Path.{refl}
use native.Mathlib.Decide.{ℕ_discrete}
use Rattle.logic.specs.Term.{size, encode}
use Rattle.logic.specs.Move.{shift, fill_at, occurs}
use Rattle.logic.specs.Reading.{read, too_deep, first_miss}
use Rattle.logic.specs.Infer.{infer, same_term, conclusion}
use Rattle.logic.specs.SignatureList.{constants, operations}
use Rattle.register.specs.Records.{records, words_of, statements_from, some_of, same_words}
use Rattle.register.specs.Calls.{opening}
use Rattle.register.specs.History.{run}
use Rattle.logic.specs.Worked.{listed}
use Rattle.reduction.specs.Steps.{next_step}
use Rattle.reduction.specs.Simplify.{simplify}
use Rattle.reduction.specs.Guards.{copies, nested_lams, tree, SimplifyGuards}

pub simplify_guards : SimplifyGuards
unfolding infer same_term conclusion read too_deep first_miss shift fill_at occurs size encode ℕ_discrete constants operations records
    words_of statements_from some_of same_words opening run listed next_step simplify copies nested_lams tree
simplify_guards = record {
  app_lam = refl;
  app_lam_raised = refl;
  bind_ret = refl;
  bind_unused = refl;
  bind_used = refl;
  bind_used_under = refl;
  used_in_domain = refl;
  used_in_proposition = refl;
  used_in_principal = refl;
  used_in_argument = refl;
  bind_sign = refl;
  not_argument = refl;
  not_domain = refl;
  not_principal = refl;
  not_says = refl;
  not_pi = refl;
  not_sign = refl;
  in_function = refl;
  in_lam = refl;
  in_ret = refl;
  in_bound = refl;
  in_rest = refl;
  outermost = refl;
  outer_bind = refl;
  leftmost = refl;
  two_rules = refl;
  no_step = refl;
  two_steps = refl;
  larger_budget = refl;
  one_of_two = refl;
  no_budget = refl;
  words_2049 = refl;
  words_2048 = refl;
  nested_33 = refl;
  nested_32 = refl;
  budget_first = refl;
  removed = refl;
  type_before = refl;
  type_after = refl;
  nothing_to_remove = refl;
  handed_checks = refl;
  handed_step = refl;
  handed_12 = refl;
  empty_first = refl;
  typed_first = refl;
  signs_first = refl;
  lapsed_first = refl;
  workspace_first = refl;
  day_before = refl;
  budget_before_output = refl;
  output_short = refl;
  past = refl;
  not_written = refl;
}
