-- How many items there are, whether there is one, and whether the first is cut short: before test 1.
use mathlib.Core.Path.{◌≡◌, sym, ap, ◌∙◌}
use native.Mathlib.Omega.{arith}
use borrow.Author.Tests.{eqb-true, eqb-false}
use lib.ListN.{length}
use Rattle.logic.specs.Answer.{reason_number}
use Rattle.register.specs.Batch.{refused_at}
use Rattle.shared_tests.specs.Shared.{lent_by}
use Rattle.batch_tests.proofs.TestsInTurn.{empty_tested, cut_first, whole_first}
use Rattle.batch_tests.proofs.testable.Goals as goal

pub returns-then-is_empty : goal.returns-then-is_empty
returns-then-is_empty c =
    c.idle.ensures
    ∙ empty_tested (lent_by c.args.signature c.args.ws.now) c.args.register.now _ _ (sym c.if-not-few.false ∙ c.few.ensures c.args.day)
    (eqb-true _ 0 (sym c.is_empty.ensures ∙ c.if-is_empty.true))

pub returns-then-is_none : goal.returns-then-is_none
returns-then-is_none c =
    let some : length c.args.items.now ≡ 0 → ⊥ = eqb-false _ 0 (sym c.is_empty.ensures ∙ c.if-is_empty.false) in
    ap (λ b. refused_at b.index (reason_number b.refusal.reason) b.refusal.place)
    (c.into-then-is_none.ensures ∙ ap (λ r. record { index = 0; refusal = r }) c.at-then-is_none.ensures)
    ∙ cut_first (lent_by c.args.signature c.args.ws.now) c.args.register.now _ _ (sym c.if-not-few.false ∙ c.few.ensures c.args.day)
    _ (omega arith) (c.item_at.ensures c.args.day) c.if-is_none.ensures

pub returns : goal.returns
returns c =
    c.tried.ensures
    ∙ whole_first (lent_by c.args.signature c.args.ws.now) c.args.register.now _ _ (sym c.if-not-few.false ∙ c.few.ensures c.args.day)
    _ (c.item_at.ensures c.args.day) c.if-is_none.ensures
