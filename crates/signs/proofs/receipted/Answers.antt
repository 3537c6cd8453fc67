-- The requests of the list in turn. The invariant: from the place `at` on the requests left decide. The measure: the
-- words that are left.
use native.Mathlib.Omega.{arith}
use Rattle.signs.proofs.Receipts.{asking_whole, asking_found, asking_next, asking_end, of_another}
use Rattle.signs.proofs.receipted.Goals as goal

pub returns-then-principal-ne-DESK : goal.returns-then-principal-ne-DESK
returns-then-principal-ne-DESK c = λ ks b. of_another _ _ ks c.if-principal-ne-DESK.true

pub bounds-asked-at-in-loop-at : goal.bounds-asked-at-in-loop-at
bounds-asked-at-in-loop-at c = omega (arith, asking_whole _ _ _ _ c.loop-at.invariant c.requires c.loop-at-test.true)

pub bounds-asked-at-in-loop-at-2 : goal.bounds-asked-at-in-loop-at-2
bounds-asked-at-in-loop-at-2 c = omega (arith, asking_whole _ _ _ _ c.loop-at.invariant c.requires c.loop-at-test.true)

pub receipt_says-same-requires : goal.receipt_says-same-requires
receipt_says-same-requires c =
    let w = asking_whole _ _ _ _ c.loop-at.invariant c.requires c.loop-at-test.true in
    (w.operation, w.extract, w.delivery)

pub returns-then-same : goal.returns-then-same
returns-then-same c =
    asking_found _ _ _ _ c.loop-at.invariant c.loop-at-test.true c.if-principal-ne-DESK.false _ c.receipt_says-same.ensures c.if-same.true

pub bounds-asked-at-in-loop-at-3 : goal.bounds-asked-at-in-loop-at-3
bounds-asked-at-in-loop-at-3 c = omega (arith, asking_whole _ _ _ _ c.loop-at.invariant c.requires c.loop-at-test.true)

pub loop-at-preserved : goal.loop-at-preserved
loop-at-preserved c =
    asking_next _ _ _ _ c.loop-at.invariant c.loop-at-test.true c.if-principal-ne-DESK.false _ c.receipt_says-same.ensures c.if-same.false

pub returns : goal.returns
returns c = asking_end _ _ _ _ c.loop-at.invariant (omega arith)
