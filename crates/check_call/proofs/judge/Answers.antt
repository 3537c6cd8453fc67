-- Tests 1 to 12 and 14 in turn: the shared ones, the term's type, its Signs.
use mathlib.Core.Path.{sym, ap, subst, ◌∙◌}
use Rattle.std.specs.Prelude.{Result as Answer}
use Rattle.logic.specs.Limits.{most_words, most_nesting}
use Rattle.logic.specs.declared.refusal.Refusal.{Refusal}
use Rattle.rules.specs.declared.typed.Typed.{Typed}
use Rattle.typing.specs.Check.{typed_term, Judged}
use native.Mathlib.Omega.{arith}
use lib.ListN.{length}
use lib.Seq.{length-take-le}
use Rattle.logic.specs.Answer.{answer}
use Rattle.logic.proofs.Answers.{handed_on}
use Rattle.register.specs.Calls.{check_own}
use Rattle.search.proofs.Search.{reads_list}
use Rattle.shared_tests.specs.Shared.{lent_by}
use Rattle.shared_tests.proofs.OwnTests.{PassedSo, passed_so, typed_so, type_found, type_refused, table_within}
use Rattle.check_call.proofs.Checks.{check_not_prepared, check_not_typed, check_missed, check_held, judged_refused, judged_as}
use Rattle.check_call.proofs.judge.Goals as goal

pub returns-in_err-count : goal.returns-in_err-count
returns-in_err-count c =
    judged_refused _ _ _ _ (check_not_prepared (lent_by c.args.signature c.args.ws.now) c.args.register.now _ c.args.day c.args.term.now _ c.prepare.ensures
    (ap answer c.in_err-count.was)) (handed_on _ _ c.from_residual.ensures)

pub slice_bounds-table-end : goal.slice_bounds-table-end
slice_bounds-table-end c =
    let a = c.args in
    let so : PassedSo (lent_by a.signature a.ws.now) a.register.now c.prepare.new.table c.prepare.result (check_own a.day a.term.now) c.prepare.ensures
    c.in_ok-count.count = passed_so _ _ _ _ _ c.prepare.ensures _ (ap answer c.in_ok-count.was) in
    table_within (lent_by a.signature a.ws.now) _ _ _ so.counted so.constants

pub slice_bounds-constants-end : goal.slice_bounds-constants-end
slice_bounds-constants-end c =
    let a = c.args in
    let so : PassedSo (lent_by a.signature a.ws.now) a.register.now c.prepare.new.table c.prepare.result (check_own a.day a.term.now) c.prepare.ensures
    c.in_ok-count.count = passed_so _ _ _ _ _ c.prepare.ensures _ (ap answer c.in_ok-count.was) in
    sym (length-take-le _ _ (table_within (lent_by a.signature a.ws.now) _ _ _ so.counted so.constants))

pub check_term-requires : goal.check_term-requires
check_term-requires c =
    let a = c.args in
    let so : PassedSo (lent_by a.signature a.ws.now) a.register.now c.prepare.new.table c.prepare.result (check_own a.day a.term.now) c.prepare.ensures
    c.in_ok-count.count = passed_so _ _ _ _ _ c.prepare.ensures _ (ap answer c.in_ok-count.was) in
    record {
      Σ = so.Σ;
      constants = so.constants;
      workspace = omega (arith, so.lent_so.workspace, c.prepare.auto.ws);
      words = omega arith;
      nesting = omega arith;
    }

pub returns-in_err-typed : goal.returns-in_err-typed
returns-in_err-typed c =
    let a = c.args in
    let so : PassedSo (lent_by a.signature a.ws.now) a.register.now c.prepare.new.table c.prepare.result (check_own a.day a.term.now) c.prepare.ensures
    c.in_ok-count.count = passed_so _ _ _ _ _ c.prepare.ensures _ (ap answer c.in_ok-count.was) in
    judged_refused _ _ _ _ (check_not_typed (lent_by a.signature a.ws.now) a.register.now _ a.day a.term.now _ _ _ so
    (type_refused _ _ _ _ (c.check_term.ensures so.Σ so.constants) (ap answer c.in_err-typed.was)))
    (handed_on _ _ c.from_residual-in_err-typed.ensures)

pub first_miss-requires : goal.first_miss-requires
first_miss-requires c =
    let a = c.args in
    let so : PassedSo (lent_by a.signature a.ws.now) a.register.now c.prepare.new.table c.prepare.result (check_own a.day a.term.now) c.prepare.ensures
    c.in_ok-count.count = passed_so _ _ _ _ _ c.prepare.ensures _ (ap answer c.in_ok-count.was) in
    let J = c.check_term.ensures so.Σ so.constants in
    let found = type_found _ _ _ _ _ J (ap answer c.in_ok-typed.was) in
    let T = typed_so so.Σ a.term.now found.type found.is in (
      record { found = so.content.records; reads = reads_list a.register.now c.in_register.ensures.list c.in_register.ensures.span so.reads },
      record { term = T.term; is = T.term_is },
    )

pub returns-in_err-first_miss : goal.returns-in_err-first_miss
returns-in_err-first_miss c =
    let a = c.args in
    let so : PassedSo (lent_by a.signature a.ws.now) a.register.now c.prepare.new.table c.prepare.result (check_own a.day a.term.now) c.prepare.ensures
    c.in_ok-count.count = passed_so _ _ _ _ _ c.prepare.ensures _ (ap answer c.in_ok-count.was) in
    let J = c.check_term.ensures so.Σ so.constants in
    let found = type_found _ _ _ _ _ J (ap answer c.in_ok-typed.was) in
    let T = typed_so so.Σ a.term.now found.type found.is in
    let there = reads_list a.register.now c.in_register.ensures.list c.in_register.ensures.span so.reads in
    judged_refused _ _ _ _ (check_missed (lent_by a.signature a.ws.now) a.register.now _ a.day a.term.now _ _ _ so T
    (sym (c.first_miss.ensures so.content.records T.term there T.term_is)
    ∙ ap answer c.in_err-first_miss.was)) (handed_on _ _ c.from_residual-in_err-first_miss.ensures)

pub returns : goal.returns
returns c =
    let a = c.args in
    let so : PassedSo (lent_by a.signature a.ws.now) a.register.now c.prepare.new.table c.prepare.result (check_own a.day a.term.now) c.prepare.ensures
    c.in_ok-count.count = passed_so _ _ _ _ _ c.prepare.ensures _ (ap answer c.in_ok-count.was) in
    let J = c.check_term.ensures so.Σ so.constants in
    let found = type_found _ _ _ _ _ J (ap answer c.in_ok-typed.was) in
    let T = typed_so so.Σ a.term.now found.type found.is in
    let there = reads_list a.register.now c.in_register.ensures.list c.in_register.ensures.span so.reads in
    judged_as found.is (check_held (lent_by a.signature a.ws.now) a.register.now _ a.day a.term.now _ _ _ so T
    (sym (c.first_miss.ensures so.content.records T.term there T.term_is)
    ∙ ap answer c.in_ok-first_miss.was))
    (subst (λ (r : Answer Typed Refusal). Judged (typed_term so.Σ most_words most_nesting a.term.now) (length a.term.now) c.check_term.new.ws r)
    c.in_ok-typed.was J)
