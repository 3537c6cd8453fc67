-- Filling, by recursion on a node's first child and a loop over second children, each filled in its node's place. The
-- invariant (`Going`): what is answered and written of the term at `start`, from here, is so of the term at `at`, from
-- the beginning. The measure of both is the number of words from the term's place to the end of the list.
use Prim.Native.Nat.{ℕ, ◌+◌, ◌<◌}
use mathlib.Core.Path.{◌≡◌, sym, subst, ◌∙◌}
use denote.Enum.Bare.{same_true}
use native.Mathlib.Omega.{arith}
use borrow.Author.Rules.{rules}
use lib.ListN.{length, get_or, length-set}
use Rattle.logic.specs.contracts.word.Class.{the_type}
use Rattle.logic.specs.Term.{size}
use Rattle.logic.specs.Move.{fill_at}
use Rattle.words.specs.Place.{At}
use Rattle.words.proofs.Places.{at_end, at_within}
use Rattle.moves.proofs.Cases.{NotLeaf, atom_case, variable_case, sign_case, node_case, rest_class, children_at, bit, deeper}
use Rattle.moves.proofs.Fills.{each, done_is, none_over, sign_filled, sign_over, atom_filled, node_over, node_filled}
use Rattle.moves.proofs.fill.+fill_into.Goals as goal

-- ---- the needs
pub offset_bounds-src-start : goal.offset_bounds-src-start
offset_bounds-src-start t c = let w = at_within c.loop-out.invariant.here.here in omega arith

pub bounds-src-start : goal.bounds-src-start
bounds-src-start t c = at_within c.loop-out.invariant.here.here

pub copy-requires : goal.copy-requires
copy-requires t c =
    let g = c.loop-out.invariant in
    let p = g.here in
    let end : c.skip-next.result ≡ c.loop-out.start + size p.term = c.skip-next.ensures p.term p.here in
    let a = at_end p.here in
    (omega arith, omega (arith, g.room))

pub overflow_add-start : goal.overflow_add-start
overflow_add-start t c = let w = at_within c.loop-out.invariant.here.here in omega arith

pub fill_into-requires : goal.fill_into-requires
fill_into-requires t c =
    let l = c.loop-out in
    let p = l.invariant.here in
    let n : NotLeaf c.class_of.result = rest_class c.if-eq.ensures c.in_default.not-Variable c.in_default.not-Sign in
    let h = children_at c.class_of.ensures n p.here in
    let w = at_within p.here in
    let s = length-set l.out l.place (get_or c.args.src.now l.start 0) in (
      omega (arith, l.invariant.ahead),
      (
        omega arith,
        record { term = h.first; here = h.left; deep = omega (arith, p.deep, h.whole); filler = p.filler; lends = p.lends; short = p.short },
      ),
    )

pub loop-out-smaller : goal.loop-out-smaller
loop-out-smaller t c =
    let l = c.loop-out in
    let p = l.invariant.here in
    let n : NotLeaf c.class_of.result = rest_class c.if-eq.ensures c.in_default.not-Variable c.in_default.not-Sign in
    let h = children_at c.class_of.ensures n p.here in
    let w : l.start < length c.args.src.now = at_within p.here in
    let ends = done_is h.first (fill_at l.depth p.filler h.first) (l.start + 1) (l.place + 1) _
    (c.fill_into.ensures h.first p.filler h.left p.lends).answer _ c.in_ok-first-in_default.was in
    omega (arith, ends.next_is)

pub loop-out-preserved : goal.loop-out-preserved
loop-out-preserved t c =
    let l = c.loop-out in
    let p = l.invariant.here in
    let n : NotLeaf c.class_of.result = rest_class c.if-eq.ensures c.in_default.not-Variable c.in_default.not-Sign in
    let h = children_at c.class_of.ensures n p.here in
    let w : l.start < length c.args.src.now = at_within p.here in
    let ends = done_is h.first (fill_at l.depth p.filler h.first) (l.start + 1) (l.place + 1) _
    (c.fill_into.ensures h.first p.filler h.left p.lends).answer _ c.in_ok-first-in_default.was in
    let same = length-set l.out l.place (get_or c.args.src.now l.start 0) in
    let b = bit c.eq-in_default.result in
    record {
      ahead = omega (arith, ends.next_is, l.invariant.ahead);
      room = omega (arith, ends.fits, c.fill_into.auto.out);
      kept = c.fill_into.auto.out ∙ same ∙ l.invariant.kept;
      here = record {
        term = h.second;
        here = subst (λ (i : ℕ). At c.args.src.now i h.second) (sym ends.next_is) h.right;
        deep = omega (arith, p.deep, h.whole, c.from-depth.ensures);
        filler = p.filler;
        lends = p.lends;
        short = p.short;
      };
      whole = λ new r g. l.invariant.whole new r (each λ e i. node_case _ c.class_of.ensures n
          (λ o x y q j. node_filled c.args.src.now c.args.filler.now l.start l.depth l.out _ l.place c.fill_into.ensures o x y e j i
          _ _ (deeper o l.depth q c.eq-in_default.ensures c.from-depth.ensures) c.if-out-place-2.false c.in_ok-first-in_default.was g));
    }

-- ---- what is answered
pub returns-in-Variable : goal.returns-in-Variable
returns-in-Variable t c =
    c.loop-out.invariant.whole _ _ (each λ e i. variable_case _ c.class_of.ensures c.in-Variable.is (λ n h. c.fill_variable.ensures n e h i))

pub returns-then-out-place : goal.returns-then-out-place
returns-then-out-place t c =
    let l = c.loop-out in
    l.invariant.whole _ _ (each λ e i. sign_case _ c.class_of.ensures c.in-Sign.is
    (λ n q h. sign_over l.depth l.out l.place e c.skip-next.result n q h (c.skip-next.ensures _ h) c.if-out-place.true))

pub returns-in-Sign : goal.returns-in-Sign
returns-in-Sign t c =
    let l = c.loop-out in
    l.invariant.whole _ _ (each λ e i. sign_case _ c.class_of.ensures c.in-Sign.is
    (λ n q h. sign_filled l.depth l.out l.place e c.skip-next.result n q h (c.skip-next.ensures _ h) l.invariant.room
    c.if-out-place.false c.copy.ensures))

pub returns-then-out-place-2 : goal.returns-then-out-place-2
returns-then-out-place-2 t c =
    let l = c.loop-out in
    l.invariant.whole _ _ (λ u e h i. none_over u (fill_at l.depth e u) l.start l.out l.place c.if-out-place-2.true)

pub returns-then-eq : goal.returns-then-eq
returns-then-eq t c =
    let l = c.loop-out in
    l.invariant.whole _ _ (each λ e i. atom_case _ c.class_of.ensures (same_true the_type (search rules) _ _ (sym c.if-eq.ensures))
    (λ a h. atom_filled l.depth l.out l.place e a h c.if-out-place-2.false))

pub returns-in_err-first-in_default : goal.returns-in_err-first-in_default
returns-in_err-first-in_default t c =
    let l = c.loop-out in
    let p = l.invariant.here in
    let n : NotLeaf c.class_of.result = rest_class c.if-eq.ensures c.in_default.not-Variable c.in_default.not-Sign in
    l.invariant.whole _ _ (each λ e i. node_case _ c.class_of.ensures n
    (λ o x y q j. node_over c.args.src.now c.args.filler.now l.start l.depth l.out _ l.place c.fill_into.ensures o x y e j i
    c.in_err-first-in_default.was c.from_residual.ensures))
