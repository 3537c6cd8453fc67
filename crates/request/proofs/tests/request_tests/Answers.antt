-- A request's own tests in turn: its numbers, its day, the type of its proof, and those of `proves`.
use mathlib.Core.Path.{sym, ap, ◌∙◌}
use native.Mathlib.Omega.{arith}
use Rattle.logic.specs.Answer.{answer}
use Rattle.logic.proofs.Answers.{handed_on}
use Rattle.records.specs.Entries.{asked}
use Rattle.register.specs.Calls.{ask_test}
use Rattle.register.specs.Batch.{day_if}
use Rattle.shared_tests.specs.Shared.{lent_of}
use Rattle.shared_tests.proofs.SharedTests.{latest_read}
use Rattle.shared_tests.proofs.OwnTests.{typed_so, type_found, type_refused, words_within}
use Rattle.request.proofs.Grants.{in_range_numbers, request_not_typed, request_typed}
use Rattle.request.proofs.tests.request_tests.Goals as goal

pub returns-in_err-typed : goal.returns-in_err-typed
returns-in_err-typed c = λ l Σ d ks e C S.
    let k = asked c.args.ask in
    handed_on _ _ c.from_residual.ensures
    ∙ sym (request_not_typed l Σ d c.args.view.source.list.now ks k _ (c.numbers.ensures ∙ ap (λ n. ask_test n k) (sym e)) c.if-not-numbers.false
    (omega (arith, c.if-ask-view.false, S.latest_is, ap (λ day. day_if ks day k.day) (latest_read c.args.view.source.list.now d S.reads)))
    (type_refused _ _ _ _ (c.check_term.ensures Σ C) (ap answer c.in_err-typed.was)))

pub proves-requires : goal.proves-requires
proves-requires c =
    let a = c.args in
    let q = c.requires in
    let N = in_range_numbers (lent_of a.signature.list.now a.signature.operations a.ws.now) q.Σ q.content a.view.source.list.now q.requests (asked a.ask) _
    c.numbers.ensures c.if-not-numbers.false in
    let J = c.check_term.ensures q.Σ q.constants in
    let T = type_found _ _ _ _ _ J (ap answer c.in_ok-typed.was) in
    let D = typed_so q.Σ a.ask.proof.now T.type T.is in
    record {
      content = q.content;
      requests = q.requests;
      seen = q.seen;
      bucketed = q.bucketed;
      term = D.term;
      is = D.term_is;
      operation = omega (arith, N.0, q.operations);
      extract = N.1;
      inside = words_within _ _ _ _ J _ (ap answer c.in_ok-typed.was);
      short = D.short;
    }

pub returns : goal.returns
returns c = λ l Σ d ks e C S.
    let k = asked c.args.ask in
    let T = type_found _ _ _ _ _ (c.check_term.ensures Σ C) (ap answer c.in_ok-typed.was) in
    let D = typed_so Σ k.proof T.type T.is in
    c.proves.ensures l Σ d ks D.term T.type S D.term_is T.front T.words_are
    ∙ sym (request_typed l Σ d c.args.view.source.list.now ks k _ (c.numbers.ensures ∙ ap (λ n. ask_test n k) (sym e)) c.if-not-numbers.false
    (omega (arith, c.if-ask-view.false, S.latest_is, ap (λ day. day_if ks day k.day) (latest_read c.args.view.source.list.now d S.reads))) D)
