-- `nested` tests the nesting of a term, by recursion on a node's first child and a loop over second children, each
-- tested in its node's place. The invariant: the answer of the term at `start` with `room` levels is that of the term
-- at `at` with `left`. The measure of both is the number of levels left.
use native.Mathlib.Omega.{arith}
use mathlib.Core.Path.{sym, ap, ◌∙◌}
use Rattle.logic.specs.Answer.{answer}
use Rattle.logic.proofs.Answers.{refusal, handed_on}
use Rattle.words.proofs.Places.{class_at, at_within}
use Rattle.words.proofs.Nestings.{is_node, nested_none, nested_leaf, nested_sign, sign_below, node_below, nested_past, nested_both, second_below}
use Rattle.words.proofs.nesting.+nested.Goals as goal

pub offset_bounds-words-start : goal.offset_bounds-words-start
offset_bounds-words-start t c = let w = at_within c.loop-room.invariant.1.here in omega arith

pub bounds-words-start : goal.bounds-words-start
bounds-words-start t c = at_within c.loop-room.invariant.1.here

pub overflow_add-result : goal.overflow_add-result
overflow_add-result t c = let w = at_within c.loop-room.invariant.1.here in omega arith

pub returns-in_default : goal.returns-in_default
returns-in_default t c =
    c.loop-room.invariant.2 _ (λ u h. let k = class_at c.class_of.ensures h in nested_leaf c.loop-room.room c.loop-room.start u (λ e. omega arith)
    (λ e. c.in_default.not-Sign (sym k ∙ e)) (λ e. c.in_default.not-Node (sym k ∙ e)) (λ e. c.in_default.not-Binder (sym k ∙ e)))

pub loop-room-preserved-in-Sign : goal.loop-room-preserved-in-Sign
loop-room-preserved-in-Sign t c =
    let i = c.loop-room.invariant in (
      omega arith,
      sign_below _ _ _ i.1.here (class_at c.class_of.ensures i.1.here ∙ c.in-Sign.is),
      λ r f. i.2 r (λ u h. nested_sign _ _ _ r (λ e. omega arith) f u h (class_at c.class_of.ensures h ∙ c.in-Sign.is)),
    )

pub nested-requires : goal.nested-requires
nested-requires t c =
    let p = c.loop-room.invariant.1 in
    (omega arith, node_below _ _ _ p.here (is_node _ (class_at c.class_of.ensures p.here) c.in-Node.is))

pub returns-in_err-start-in-Node : goal.returns-in_err-start-in-Node
returns-in_err-start-in-Node t c =
    λ u h. handed_on _ _ c.from_residual.ensures ∙ c.loop-room.invariant.2 _ (λ v g. nested_past _ _ _ _ _ _ (λ e. omega arith) c.nested.ensures
    (ap answer c.in_err-start-in-Node.was) v g (is_node _ (class_at c.class_of.ensures g) c.in-Node.is)) u h

pub loop-room-preserved : goal.loop-room-preserved
loop-room-preserved t c =
    let i = c.loop-room.invariant in
    let q = ap answer c.in_ok-start-in-Node.was in (
      omega arith,
      second_below _ _ _ _ _ _ i.1.here (is_node _ (class_at c.class_of.ensures i.1.here) c.in-Node.is) c.nested.ensures q,
      λ r f. i.2 r (λ u h. nested_both _ _ _ _ _ r (λ e. omega arith) c.nested.ensures q f u h (is_node _ (class_at c.class_of.ensures h) c.in-Node.is)),
    )

pub returns : goal.returns
returns t c = λ u h. ap refusal c.at.ensures ∙ c.loop-room.invariant.2 _ (λ v g. nested_none c.loop-room.room c.loop-room.start v (omega arith)) u h
