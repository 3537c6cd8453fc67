-- The shared tests once, the statements held in buckets, and behind them the tests of the items.
use mathlib.Core.Path.{refl, sym, ap, subst, ◌∙◌}
use mathlib.Core.List.{List, []}
use Prim.Native.Nat.{ℕ}
use native.Mathlib.Omega.{arith}
use lib.ListN.{length}
use lib.Seq.{length-take-le}
use Rattle.logic.specs.Result.{Result, ok}
use Rattle.logic.specs.Answer.{answer}
use Rattle.register.specs.Records.{register_content}
use Rattle.register.specs.Calls.{View, view, outline_of}
use Rattle.register.specs.Batch.{Batched, items}
use Rattle.register.specs.BatchTests.{items_own, at_start}
use Rattle.search.specs.Sources.{IsView}
use Rattle.search.proofs.Search.{reads_view}
use Rattle.buckets.specs.Buckets.{bucket_count}
use Rattle.buckets.proofs.Buckets.{empty_buckets}
use Rattle.shared_tests.specs.Shared.{lent_by}
use Rattle.shared_tests.proofs.OwnTests.{not_prepared, passed_so, table_within}
use Rattle.batch_tests.proofs.TestsInTurn.{batch_handed_on}
use Rattle.batch_tests.proofs.tried.Goals as goal

-- the tests of the items, behind those that calls share
abbrev own : ℕ → List ℕ → View → Result Batched
own day ws s = ok (items_own day 0 [] (items day ws) s)

pub returns-in_err-count : goal.returns-in_err-count
returns-in_err-count c =
    batch_handed_on _ _ c.from_residual.ensures
    ∙ sym (ap at_start (not_prepared _ _ _ _ (own c.args.day c.args.items.now) c.prepare.ensures _ _ (ap answer c.in_err-count.was)))

pub fill-requires : goal.fill-requires
fill-requires c =
    let passed = passed_so _ _ _ _ (own c.args.day c.args.items.now) c.prepare.ensures _ (ap answer c.in_ok-count.was) in
    let V = c.view_of-view.ensures in (
      record { found = passed.content.records; reads = reads_view c.args.register.now V passed.reads },
      ap (λ x. x.rules) V.span,
      empty_buckets _ _ bucket_count (omega arith),
    )

pub slice_bounds-table-end : goal.slice_bounds-table-end
slice_bounds-table-end c =
    let passed = passed_so _ _ _ _ (own c.args.day c.args.items.now) c.prepare.ensures _ (ap answer c.in_ok-count.was) in
    table_within (lent_by c.args.signature c.args.ws.now) _ _ _ passed.counted passed.constants

pub slice_bounds-test_items-end : goal.slice_bounds-test_items-end
slice_bounds-test_items-end c =
    let passed = passed_so _ _ _ _ (own c.args.day c.args.items.now) c.prepare.ensures _ (ap answer c.in_ok-count.was) in
    sym (length-take-le _ _ (table_within (lent_by c.args.signature c.args.ws.now) _ _ _ passed.counted passed.constants))

pub test_items-requires : goal.test_items-requires
test_items-requires c =
    let passed = passed_so _ _ _ _ (own c.args.day c.args.items.now) c.prepare.ensures _ (ap answer c.in_ok-count.was) in
    let V = c.view_of-view.ensures in
    record {
      content = passed.content;
      reads = ap register_content V.list ∙ passed.reads;
      view = subst (IsView c.view_of-view.result) (sym V.list) V;
      bucketed = c.fill.ensures;
      not_longer = omega (arith, passed.lent_so.not_longer, ap length V.list);
      Σ = passed.Σ;
      constants = passed.constants;
      operations = passed.lent_so.operations;
      workspace = omega (arith, passed.lent_so.workspace, c.prepare.auto.ws);
    }

pub returns : goal.returns
returns c =
    let lent = lent_by c.args.signature c.args.ws.now in
    let passed = passed_so _ _ _ _ (own c.args.day c.args.items.now) c.prepare.ensures _ (ap answer c.in_ok-count.was) in
    let V = c.view_of-view.ensures in
    c.test_items.ensures lent passed.Σ passed.content refl passed.constants (ap register_content V.list ∙ passed.reads)
    ∙ ap (λ reg. at_start (own c.args.day c.args.items.now (view lent (outline_of reg) passed.content passed.Σ))) V.list
    ∙ sym (ap at_start passed.is)
