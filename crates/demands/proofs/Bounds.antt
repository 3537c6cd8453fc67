-- The bounds of refusals, each proved in its crate.
use Rattle.register.proofs.Bounds.{check_bound, say_bound, request_bound, batch_bound, open_bound, read_bound, mark_bound, return_bound}
use Rattle.editions.proofs.Refuses.{converted_bound}
use Rattle.uses.proofs.Demands.{uses_bound}
use Rattle.reduction.proofs.Refuses.{simplify_bound}
use Rattle.demands.specs.Bounds.{Bounds}

pub bounds : Bounds
bounds = record {
  checks = check_bound;
  says = say_bound;
  requests = request_bound;
  batches = batch_bound;
  opens = open_bound;
  reads = read_bound;
  marks = mark_bound;
  returns = return_bound;
  converts = converted_bound;
  counts = uses_bound;
  simplifies = simplify_bound;
}
