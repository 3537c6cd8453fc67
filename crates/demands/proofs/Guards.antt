-- The guards, each proved in its crate.
use Rattle.logic.proofs.Starred.{starred}
use Rattle.logic.proofs.Order.{order}
use Rattle.logic.proofs.Sentences.{sentences}
use Rattle.logic.proofs.WholeProperty.{whole_property}
use Rattle.logic.proofs.SeparateRefusals.{separate_refusals, separate_examples}
use Rattle.logic.proofs.FreeVariables.{free_examples}
use Rattle.register.proofs.Shape.{shape}
use Rattle.register.proofs.Worked.{worked_register, worked_days}
use Rattle.register.proofs.Order.{call_order}
use Rattle.register.proofs.BatchGuards.{batch_guards}
use Rattle.register.proofs.HistoryGuards.{history_guards}
use Rattle.register.proofs.MarkGuards.{mark_guards}
use Rattle.register.proofs.Paper.{paper_register}
use Rattle.decimal.proofs.Guards.{decimal_guards}
use Rattle.homes.proofs.Guards.{homes_guards}
use Rattle.extract.proofs.Guards.{extract_guards}
use Rattle.editions.proofs.Guards.{named_guards}
use Rattle.uses.proofs.Guards.{uses_guards}
use Rattle.reduction.proofs.Guards.{simplify_guards}
use Rattle.demands.specs.Guards.{DefinitionGuards}

pub definition_guards : DefinitionGuards
definition_guards = record {
  numbers = paper_register;
  starred = starred;
  worked = worked_register;
  rules = sentences;
  term_order = order;
  call_order = call_order;
  shapes = shape;
  histories = history_guards;
  whole_property = whole_property;
  separate_refusals = separate_refusals;
  separate_examples = separate_examples;
  decimals = decimal_guards;
  homes = homes_guards;
  extracts = extract_guards;
  days = worked_days;
  names = named_guards;
  batches = batch_guards;
  free_variables = free_examples;
  counts = uses_guards;
  simplified = simplify_guards;
  marks = mark_guards;
}
