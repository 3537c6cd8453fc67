-- The shared tests, and behind them a request's own: no request is before it, the view is the register's, and the
-- bucket is empty.
use mathlib.Core.Path.{refl, sym, ap, ◌∙◌}
use mathlib.Core.List.{[]}
use native.Mathlib.Omega.{arith}
use lib.Seq.{length-take-le}
use Rattle.logic.specs.Answer.{answer}
use Rattle.logic.proofs.Answers.{handed_on}
use Rattle.records.specs.Entries.{asked}
use Rattle.register.specs.Calls.{request_own, view, outline_of}
use Rattle.register.specs.BatchTests.{view_behind}
use Rattle.buckets.proofs.Buckets.{empty_buckets}
use Rattle.shared_tests.specs.Shared.{lent_by}
use Rattle.shared_tests.proofs.OwnTests.{not_prepared, passed_so, table_within}
use Rattle.request.proofs.Grants.{behind_none, none_before}
use Rattle.request.proofs.grantable.Goals as goal

pub returns-in_err-count : goal.returns-in_err-count
returns-in_err-count c =
    handed_on _ _ c.from_residual.ensures
    ∙ sym (not_prepared _ _ _ _ (request_own (asked c.args.ask)) c.prepare.ensures _ _ (ap answer c.in_err-count.was))

pub slice_bounds-table-end : goal.slice_bounds-table-end
slice_bounds-table-end c =
    let passed = passed_so _ _ _ _ (request_own (asked c.args.ask)) c.prepare.ensures _ (ap answer c.in_ok-count.was) in
    table_within (lent_by c.args.signature c.args.ws.now) _ _ _ passed.counted passed.constants

pub slice_bounds-request_tests-end : goal.slice_bounds-request_tests-end
slice_bounds-request_tests-end c =
    let passed = passed_so _ _ _ _ (request_own (asked c.args.ask)) c.prepare.ensures _ (ap answer c.in_ok-count.was) in
    sym (length-take-le _ _ (table_within (lent_by c.args.signature c.args.ws.now) _ _ _ passed.counted passed.constants))

pub request_tests-requires : goal.request_tests-requires
request_tests-requires c =
    let passed = passed_so _ _ _ _ (request_own (asked c.args.ask)) c.prepare.ensures _ (ap answer c.in_ok-count.was) in
    record {
      content = passed.content;
      requests = [];
      seen = none_before _ _ c.args.ask.day passed.content c.view_of.ensures passed.reads;
      bucketed = empty_buckets _ _ 1 (omega arith);
      Σ = passed.Σ;
      constants = passed.constants;
      operations = passed.lent_so.operations;
      workspace = omega (arith, passed.lent_so.workspace, c.prepare.auto.ws);
    }

pub returns : goal.returns
returns c =
    let lent = lent_by c.args.signature c.args.ws.now in
    let k = asked c.args.ask in
    let passed = passed_so _ _ _ _ (request_own k) c.prepare.ensures _ (ap answer c.in_ok-count.was) in
    c.request_tests.ensures lent passed.Σ passed.content [] refl passed.constants (none_before _ _ k.day passed.content c.view_of.ensures passed.reads)
    ∙ ap (λ reg. request_own k (view_behind [] k.day (view lent (outline_of reg) passed.content passed.Σ))) c.view_of.ensures.list
    ∙ ap (request_own k) (behind_none k.day (view lent (outline_of c.args.register.now) passed.content passed.Σ))
    ∙ sym passed.is
