-- Test 14, whether the statement is held, and test 16, each on the register's view.
use mathlib.Core.Path.{sym, ap, ◌∙◌}
use native.Mathlib.Omega.{arith}
use Rattle.logic.specs.Answer.{answer}
use Rattle.logic.proofs.Answers.{refusal, handed_on}
use Rattle.logic.proofs.Stopped.{stop}
use Rattle.records.specs.Entries.{stated}
use Rattle.records.proofs.Items.{records_there}
use Rattle.search.proofs.Search.{reads_view, header_there}
use Rattle.say.proofs.Statements.{say_missed, say_repeated, say_full, say_enough}
use Rattle.say.proofs.addable.Goals as goal

pub view_of-view-requires : goal.view_of-view-requires
view_of-view-requires c = header_there c.args.register.now c.requires.reads

pub first_miss-requires : goal.first_miss-requires
first_miss-requires c =
    let p = c.requires in
    (record { found = _; reads = reads_view _ c.view_of-view.ensures p.reads }, record { term = p.term; is = p.is })

pub returns-in_err-first_miss : goal.returns-in_err-first_miss
returns-in_err-first_miss c =
    λ l Σ d q g i. stop _ (handed_on _ _ c.from_residual.ensures) ∙ sym (say_missed l Σ d c.args.register.now c.args.day (stated c.args.statement) q
    (sym (c.first_miss.ensures d.records q (reads_view _ c.view_of-view.ensures g) i) ∙ ap answer c.in_err-first_miss.was))

pub stands-requires : goal.stands-requires
stands-requires c = record { found = _; reads = reads_view _ c.view_of-view.ensures c.requires.reads }

pub returns-then-stands : goal.returns-then-stands
returns-then-stands c =
    λ l Σ d q g i.
    let k = reads_view _ c.view_of-view.ensures g in
    sym (say_repeated l Σ d c.args.register.now c.args.day (stated c.args.statement) q
    (sym (c.first_miss.ensures d.records q k i) ∙ ap answer c.in_ok-first_miss.was) _ (c.stands.ensures d.records k)
    c.if-stands.true)

pub overflow_sub-view : goal.overflow_sub-view
overflow_sub-view c =
    let V = c.view_of-view.ensures in
    omega (arith, V.size, V.used_is, (records_there c.args.register.now c.requires.content c.requires.reads).within)

pub returns-then-view-statement : goal.returns-then-view-statement
returns-then-view-statement c =
    λ l Σ d q g i.
    let V = c.view_of-view.ensures in
    let k = reads_view _ V g in
    ap (λ x. refusal x) c.at.ensures
    ∙ sym (say_full l Σ d c.args.register.now c.args.day (stated c.args.statement) q
    (sym (c.first_miss.ensures d.records q k i) ∙ ap answer c.in_ok-first_miss.was) _ (c.stands.ensures d.records k)
    c.if-stands.false (omega (arith, c.if-view-statement.true, V.size, V.used_is)))

pub returns : goal.returns
returns c =
    λ l Σ d q g i.
    let V = c.view_of-view.ensures in
    let k = reads_view _ V g in
    sym (say_enough l Σ d c.args.register.now c.args.day (stated c.args.statement) q
    (sym (c.first_miss.ensures d.records q k i) ∙ ap answer c.in_ok-first_miss.was) _ (c.stands.ensures d.records k)
    c.if-stands.false (records_there c.args.register.now d g).within (omega (arith, c.if-view-statement.false, V.size, V.used_is)))
