-- All tests of a say in turn: the shared ones, its numbers, its day, its principal, the proposition, and those of
-- `addable`.
use mathlib.Core.Path.{sym, ap, ◌∙◌}
use native.Mathlib.Omega.{arith}
use lib.Seq.{length-take-le}
use Rattle.logic.specs.Answer.{answer}
use Rattle.logic.proofs.Answers.{refusal, handed_on}
use Rattle.logic.proofs.Stopped.{stop}
use Rattle.register.specs.Calls.{say_own}
use Rattle.records.specs.Entries.{stated}
use Rattle.shared_tests.specs.Shared.{lent_by}
use Rattle.shared_tests.proofs.OwnTests.{PassedSo, passed_so, table_within}
use Rattle.say.proofs.Statements.{statement_so, say_not_prepared, say_bad_numbers, say_late, say_by_desk, say_not_stated, say_stated}
use Rattle.say.proofs.sayable.Goals as goal

pub returns-in_err-count : goal.returns-in_err-count
returns-in_err-count c =
    let a = c.args in
    let l = lent_by a.signature a.ws.now in
    let st = stated a.statement in
    stop _ (handed_on _ _ c.from_residual.ensures) ∙ sym (say_not_prepared l a.register.now _ a.day st _ c.prepare.ensures (ap answer c.in_err-count.was))

pub returns-then-not-good_statement : goal.returns-then-not-good_statement
returns-then-not-good_statement c =
    let a = c.args in
    let l = lent_by a.signature a.ws.now in
    let st = stated a.statement in
    let so : PassedSo l a.register.now c.prepare.new.table c.prepare.result (say_own a.day st) c.prepare.ensures c.in_ok-count.count =
    passed_so _ _ _ _ _ c.prepare.ensures _ (ap answer c.in_ok-count.was) in
    ap (λ x. refusal x) c.at.ensures
    ∙ sym (say_bad_numbers l a.register.now _ a.day st _ _ _ so _ (c.good_statement.ensures a.statement.words.now) c.if-not-good_statement.true)

pub in_time-requires : goal.in_time-requires
in_time-requires c =
    let a = c.args in
    let l = lent_by a.signature a.ws.now in
    let st = stated a.statement in
    let so : PassedSo l a.register.now c.prepare.new.table c.prepare.result (say_own a.day st) c.prepare.ensures c.in_ok-count.count =
    passed_so _ _ _ _ _ c.prepare.ensures _ (ap answer c.in_ok-count.was) in
    so.lent_so.not_shorter

pub returns-then-not-in_time : goal.returns-then-not-in_time
returns-then-not-in_time c =
    let a = c.args in
    let l = lent_by a.signature a.ws.now in
    let st = stated a.statement in
    let so : PassedSo l a.register.now c.prepare.new.table c.prepare.result (say_own a.day st) c.prepare.ensures c.in_ok-count.count =
    passed_so _ _ _ _ _ c.prepare.ensures _ (ap answer c.in_ok-count.was) in
    ap (λ x. refusal x) c.at-then-not-in_time.ensures
    ∙ sym (say_late l a.register.now _ a.day st _ _ _ so _ (c.good_statement.ensures a.statement.words.now)
    c.if-not-good_statement.false _ c.in_time.ensures c.if-not-in_time.true)

pub returns-then-statement-eq-DESK : goal.returns-then-statement-eq-DESK
returns-then-statement-eq-DESK c =
    let a = c.args in
    let l = lent_by a.signature a.ws.now in
    let st = stated a.statement in
    let so : PassedSo l a.register.now c.prepare.new.table c.prepare.result (say_own a.day st) c.prepare.ensures c.in_ok-count.count =
    passed_so _ _ _ _ _ c.prepare.ensures _ (ap answer c.in_ok-count.was) in
    ap (λ x. refusal x) c.at-then-statement-eq-DESK.ensures
    ∙ sym (say_by_desk l a.register.now _ a.day st _ _ _ so _ (c.good_statement.ensures a.statement.words.now)
    c.if-not-good_statement.false _ c.in_time.ensures c.if-not-in_time.false
    c.if-statement-eq-DESK.true)

pub slice_bounds-table-end : goal.slice_bounds-table-end
slice_bounds-table-end c =
    let a = c.args in
    let l = lent_by a.signature a.ws.now in
    let st = stated a.statement in
    let so : PassedSo l a.register.now c.prepare.new.table c.prepare.result (say_own a.day st) c.prepare.ensures c.in_ok-count.count =
    passed_so _ _ _ _ _ c.prepare.ensures _ (ap answer c.in_ok-count.was) in
    table_within l _ _ _ so.counted so.constants

pub slice_bounds-constants-end : goal.slice_bounds-constants-end
slice_bounds-constants-end c =
    let a = c.args in
    let l = lent_by a.signature a.ws.now in
    let st = stated a.statement in
    let so : PassedSo l a.register.now c.prepare.new.table c.prepare.result (say_own a.day st) c.prepare.ensures c.in_ok-count.count =
    passed_so _ _ _ _ _ c.prepare.ensures _ (ap answer c.in_ok-count.was) in
    sym (length-take-le _ _ (table_within l _ _ _ so.counted so.constants))

pub check_statement-requires : goal.check_statement-requires
check_statement-requires c =
    let a = c.args in
    let l = lent_by a.signature a.ws.now in
    let st = stated a.statement in
    let so : PassedSo l a.register.now c.prepare.new.table c.prepare.result (say_own a.day st) c.prepare.ensures c.in_ok-count.count =
    passed_so _ _ _ _ _ c.prepare.ensures _ (ap answer c.in_ok-count.was) in
    record {
      Σ = so.Σ;
      constants = so.constants;
      workspace = omega (arith, so.lent_so.workspace, c.prepare.auto.ws);
      words = omega arith;
      nesting = omega arith;
    }

pub returns-in_err-check_statement : goal.returns-in_err-check_statement
returns-in_err-check_statement c =
    let a = c.args in
    let l = lent_by a.signature a.ws.now in
    let st = stated a.statement in
    let so : PassedSo l a.register.now c.prepare.new.table c.prepare.result (say_own a.day st) c.prepare.ensures c.in_ok-count.count =
    passed_so _ _ _ _ _ c.prepare.ensures _ (ap answer c.in_ok-count.was) in
    stop _ (handed_on _ _ c.from_residual-in_err-check_statement.ensures)
    ∙ sym (say_not_stated l a.register.now _ a.day st _ _ _ so _ (c.good_statement.ensures a.statement.words.now)
    c.if-not-good_statement.false _ c.in_time.ensures c.if-not-in_time.false
    c.if-statement-eq-DESK.false (sym (c.check_statement.ensures so.Σ a.statement.principal so.constants) ∙ ap answer c.in_err-check_statement.was))

pub addable-requires : goal.addable-requires
addable-requires c =
    let a = c.args in
    let l = lent_by a.signature a.ws.now in
    let st = stated a.statement in
    let so : PassedSo l a.register.now c.prepare.new.table c.prepare.result (say_own a.day st) c.prepare.ensures c.in_ok-count.count =
    passed_so _ _ _ _ _ c.prepare.ensures _ (ap answer c.in_ok-count.was) in
    let T = statement_so so.Σ so.constants.signature st
    (sym (c.check_statement.ensures so.Σ a.statement.principal so.constants) ∙ ap answer c.in_ok-check_statement.was) in
    record { content = so.content; reads = so.reads; term = T.term; is = T.term_is; short = T.short }

pub returns : goal.returns
returns c =
    let a = c.args in
    let l = lent_by a.signature a.ws.now in
    let st = stated a.statement in
    let so : PassedSo l a.register.now c.prepare.new.table c.prepare.result (say_own a.day st) c.prepare.ensures c.in_ok-count.count =
    passed_so _ _ _ _ _ c.prepare.ensures _ (ap answer c.in_ok-count.was) in
    let T = statement_so so.Σ so.constants.signature st
    (sym (c.check_statement.ensures so.Σ a.statement.principal so.constants) ∙ ap answer c.in_ok-check_statement.was) in
    c.addable.ensures l so.Σ so.content T.term so.reads T.term_is
    ∙ sym (say_stated l a.register.now _ a.day st _ _ _ so _ (c.good_statement.ensures a.statement.words.now)
    c.if-not-good_statement.false _ c.in_time.ensures c.if-not-in_time.false
    c.if-statement-eq-DESK.false T)
