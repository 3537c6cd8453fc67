-- `read_term` and `read_children` read a term and terms in a row, by recursion on one another and a loop over the
-- terms. The invariant: the answer of the terms left, from `next` on, is that of all, from `at` on. The measure of the
-- recursion is twice the number of words left, and one more for the children; that of the loop, the number of words
-- left.
use Prim.Native.Nat.{◌<◌}
use native.Mathlib.Omega.{arith}
use lib.ListN.{length}
use mathlib.Core.Path.{sym, ap, ◌∙◌}
use Rattle.words.specs.Parsing.{read_answer}
use Rattle.words.proofs.Parses.{children_none, children_end, children_bad, first_end, last_children, last_bad, place_handed_on}
use Rattle.words.proofs.Parses.{term_children, term_within, term_bad}
use Rattle.words.proofs.read.+read_children_read_term.Goals as goal

pub read_children-returns-in_err-left : goal.read_children-returns-in_err-left
read_children-returns-in_err-left t c =
    let i = c.loop-left.invariant in
    λ k l. place_handed_on _ _ c.from_residual.ensures
    ∙ i.2 _ (last_bad _ _ _ _ _ c.if-left-eq1.true i.1 (sym c.children_at.ensures ∙ ap read_answer c.in_err-left.was)) k l

pub read_children-loop-left-preserved-then-left-eq1 : goal.read_children-loop-left-preserved-then-left-eq1
read_children-loop-left-preserved-then-left-eq1 t c =
    let i = c.loop-left.invariant in
    let e = sym c.children_at.ensures ∙ ap read_answer c.in_ok-left.was in
    let w : c.loop-left.next < length c.args.words.now = term_within _ _ _ e in
    (omega arith, omega arith, λ r f. i.2 r (last_children _ _ _ _ r c.if-left-eq1.true e f))

pub read_children-returns-in_err-next : goal.read_children-returns-in_err-next
read_children-returns-in_err-next t c =
    λ k l. place_handed_on _ _ c.from_residual-in_err-next.ensures
    ∙ c.loop-left.invariant.2 _ (children_bad _ _ _ _ _ _ (λ z. omega arith) c.read_term.ensures (ap read_answer c.in_err-next.was)) k l

pub read_children-loop-left-smaller : goal.read_children-loop-left-smaller
read_children-loop-left-smaller t c = let f = first_end _ _ _ _ c.read_term.ensures (ap read_answer c.in_ok-next.was) in omega arith

pub read_children-loop-left-preserved : goal.read_children-loop-left-preserved
read_children-loop-left-preserved t c =
    let q = ap read_answer c.in_ok-next.was in
    let f = first_end _ _ _ _ c.read_term.ensures q in
    (omega arith, omega arith, λ r g. c.loop-left.invariant.2 r (children_end _ _ _ _ _ r (λ z. omega arith) c.read_term.ensures q g))

pub read_children-returns : goal.read_children-returns
read_children-returns t c = c.loop-left.invariant.2 _ (children_none _ _ _ (omega arith))

pub read_term-returns-in_err-n : goal.read_term-returns-in_err-n
read_term-returns-in_err-n t c =
    λ k l. place_handed_on _ _ c.from_residual.ensures ∙ term_bad _ _ _ _ c.requires (sym c.children_at.ensures ∙ ap read_answer c.in_err-n.was) k l

pub read_term-returns-then-n-eq0 : goal.read_term-returns-then-n-eq0
read_term-returns-then-n-eq0 t c =
    let e = sym c.children_at.ensures ∙ ap read_answer c.in_ok-n.was in
    term_children _ _ _ _ e (children_none _ _ _ c.if-n-eq0.true) (term_within _ _ _ e)

pub read_term-returns : goal.read_term-returns
read_term-returns t c =
    let e = sym c.children_at.ensures ∙ ap read_answer c.in_ok-n.was in
    term_children _ _ _ _ e c.read_children.ensures (term_within _ _ _ e)
