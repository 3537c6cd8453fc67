-- Tests 13, 14 and 16, the last two on the view and behind the requests before.
use mathlib.Core.Path.{sym, ap, ◌∙◌}
use native.Mathlib.Omega.{arith}
use Rattle.logic.specs.Answer.{answer}
use Rattle.logic.proofs.Answers.{refusal, handed_on}
use Rattle.records.specs.Entries.{asked}
use Rattle.search.proofs.Search.{reads_register}
use Rattle.request.proofs.Grants.{request_missed, request_full, request_enough}
use Rattle.request.proofs.tests.proves.Goals as goal

pub first_miss_behind-requires : goal.first_miss_behind-requires
first_miss_behind-requires c =
    let q = c.requires in (
      record { found = q.content.records; reads = reads_register _ q.seen.span q.seen.reads },
      q.bucketed,
      record { asked = q.requests; before = q.seen.before },
      record { term = q.term; is = q.is },
    )

pub returns-in_err-first_miss_behind : goal.returns-in_err-first_miss_behind
returns-in_err-first_miss_behind c = λ l Σ d ks t A S i T e.
    handed_on _ _ c.from_residual.ensures
    ∙ sym (request_missed l Σ d c.args.view.source.list.now ks (asked c.args.ask) t A _ (c.permits.ensures A T e) c.if-not-permits.false
    (sym (c.first_miss_behind.ensures d.records ks t (reads_register _ S.span S.reads) S.before i) ∙ ap answer c.in_err-first_miss_behind.was))

pub returns-then-view-ask : goal.returns-then-view-ask
returns-then-view-ask c = λ l Σ d ks t A S i T e.
    ap refusal c.at-then-view-ask.ensures
    ∙ sym (request_full l Σ d c.args.view.source.list.now ks (asked c.args.ask) t A _ (c.permits.ensures A T e) c.if-not-permits.false
    (sym (c.first_miss_behind.ensures d.records ks t (reads_register _ S.span S.reads) S.before i) ∙ ap answer c.in_ok-first_miss_behind.was)
    (omega (arith, c.if-view-ask.true, S.size, S.used_is)))

pub returns : goal.returns
returns c = λ l Σ d ks t A S i T e.
    sym (request_enough l Σ d c.args.view.source.list.now ks (asked c.args.ask) t A _ (c.permits.ensures A T e) c.if-not-permits.false
    (sym (c.first_miss_behind.ensures d.records ks t (reads_register _ S.span S.reads) S.before i) ∙ ap answer c.in_ok-first_miss_behind.was)
    S.fits (omega (arith, c.if-view-ask.false, S.size, S.used_is)))
