-- The demands hold: each crate proves them of its calls.
use Rattle.register.proofs.Refuses.{demand1}
use Rattle.register.proofs.Succeeds.{demand2}
use Rattle.register.proofs.Leaves.{leaving}
use Rattle.register.proofs.Stated.{stated_right}
use Rattle.register.proofs.Verdict.{verdicts}
use Rattle.register.proofs.Lapse.{lapses}
use Rattle.register.proofs.Batch.{batches}
use Rattle.register.proofs.BatchTests.{tested_once}
use Rattle.register.proofs.Demand.{demand3}
use Rattle.register.proofs.Unread.{unread}
use Rattle.register.proofs.Trials.{trial_demand3, back_to_mark, no_mark_law}
use Rattle.homes.proofs.Outputs.{writing_step}
use Rattle.extract.proofs.Demands.{extract_demands}
use Rattle.extract.proofs.Histories.{desk_demand3, desk_trial_demand3, desk_no_mark_law}
use Rattle.editions.proofs.Laws.{laws}
use Rattle.editions.proofs.Refuses.{converters}
use Rattle.uses.proofs.Demands.{uses_demand}
use Rattle.reduction.proofs.Refuses.{simplify_demands}
use Rattle.reduction.proofs.Laws.{simplify_laws}
use Rattle.demands.specs.Demands.{Demands}
use Rattle.demands.proofs.Fields.{demand1_fields, demand2_fields, extract_fields, converters_fields, demand3_fields, desk_demand3_fields}
use Rattle.demands.proofs.Fields.{trial_demand3_fields, desk_trial_demand3_fields, unread_fields}
use Rattle.demands.proofs.Fields.{leaving_fields, stated_right_fields, verdicts_fields, lapses_fields, batches_fields, tested_once_fields}
use Rattle.demands.proofs.Fields.{writing_step_fields, laws_fields, uses_fields, simplify_fields, step_laws_fields}
use Rattle.demands.proofs.Logic.{word_laws, metatheory}
use Rattle.demands.proofs.Bounds.{bounds}
use Rattle.demands.proofs.Guards.{definition_guards}

pub demands : Demands
demands = record {
  refuses = demand1_fields demand1;
  succeeds = demand2_fields demand2;
  extracts = λ l reg k hs t room. extract_fields (extract_demands l reg k hs t room);
  converts = converters_fields converters;
  counts = uses_fields uses_demand;
  simplifies = simplify_fields simplify_demands;
  lists = λ s w given mode rule_words rules calls e. let (r, l, d) = demand3 s w given mode rule_words rules calls e in (r, l, demand3_fields d);
  desk_lists = λ s w given mode rule_words rules calls e. desk_demand3_fields (desk_demand3 s w given mode rule_words rules calls e);
  trial_lists = λ s w given list rule_words rules calls e h. trial_demand3_fields (trial_demand3 s w given list rule_words rules calls e h);
  desk_trial_lists = λ s w given list rule_words rules calls e h. desk_trial_demand3_fields (desk_trial_demand3 s w given list rule_words rules calls e h);
  back = back_to_mark;
  desk_back = back_to_mark;
  unmarked_lists = no_mark_law;
  desk_unmarked_lists = desk_no_mark_law;
  unread = unread_fields unread;
  leaves = leaving_fields leaving;
  states = stated_right_fields stated_right;
  depends = verdicts_fields verdicts;
  lapses = lapses_fields lapses;
  bounds = bounds;
  batches = batches_fields batches;
  once = tested_once_fields tested_once;
  writes = writing_step_fields writing_step;
  laws = laws_fields laws;
  steps = step_laws_fields simplify_laws;
  words = word_laws;
  metatheory = metatheory;
  guards = definition_guards;
}
