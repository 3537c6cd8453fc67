-- The tests of the items in turn, each behind those before it.
use mathlib.Core.Path.{ap, ◌∙◌}
use native.Mathlib.Omega.{arith}
use Rattle.logic.specs.Answer.{answer, reason_number}
use Rattle.register.specs.Batch.{refused_at}
use Rattle.records.proofs.Items.{records_there}
use Rattle.item_list.proofs.ItemPlaces.{whole_there, cut_there}
use Rattle.batch_tests.proofs.TestsInTurn.{testing_start, seen_so, tests_ended, tests_cut, item_refused_so, testing_next}
use Rattle.batch_tests.proofs.test_items.Goals as goal

pub loop-at-init : goal.loop-at-init
loop-at-init c =
    testing_start (records_there _ c.requires.content c.requires.reads).within c.requires.view.used_is c.requires.view.latest_is

pub returns-in_default : goal.returns-in_default
returns-in_default c = λ l Σ d n C r.
    ap (λ x. refused_at c.loop-at.index (reason_number x.reason) x.place) c.at.ensures
    ∙ tests_cut c.loop-at.invariant (cut_there _ _ _ c.loop-at-test.true (c.in_default.ensures c.args.day)) l Σ d n C r

pub ask_at-ask-requires : goal.ask_at-ask-requires
ask_at-ask-requires c = let w = whole_there c.args.day _ _ (c.in-Some.ensures c.args.day) in (w.head, w.within)

pub returns-in-Err : goal.returns-in-Err
returns-in-Err c =
    let T = c.loop-at.invariant in
    let k = c.ask_at-ask.ensures in
    item_refused_so T (whole_there _ _ _ (c.in-Some.ensures c.args.day)) k
    (λ l Σ d n C r. c.request_tests.ensures l Σ d T.ks n C (seen_so _ T c.requires.view (ap (λ k. k.day) k) d r)) (ap answer c.in-Err.is)

pub loop-at-smaller : goal.loop-at-smaller
loop-at-smaller c =
    let w = whole_there c.args.day c.args.items.now c.loop-at.at (c.in-Some.ensures c.args.day) in
    omega (arith, w.head, w.within)

pub loop-at-preserved : goal.loop-at-preserved
loop-at-preserved c =
    let T = c.loop-at.invariant in
    let k = c.ask_at-ask.ensures in
    testing_next T (whole_there _ _ _ (c.in-Some.ensures c.args.day)) k
    (λ l Σ d n C r. c.request_tests.ensures l Σ d T.ks n C (seen_so _ T c.requires.view (ap (λ k. k.day) k) d r))
    (ap answer c.in_default-request_tests.is) c.requires.constants c.requires.reads c.requires.operations

pub returns : goal.returns
returns c = tests_ended c.loop-at.invariant c.loop-at-test.false
