-- The shift in place, by recursion on a term's children: a variable that is free is moved and counted, one that is
-- bound, an atom or a Sign stays, and of a node the first child is shifted and then the second, which the first leaves
-- where it stands. The measure is the number of words from the term's place to the end of the list.
use Prim.Native.Nat.{◌≤◌}
use native.Mathlib.Omega.{arith}
use lib.IntN.{nat_abs}
use mir.Facts.{to_z-of_z}
use mir.Val.{to_z, of_z}
use mir.Syntax.{w32}
use Rattle.logic.specs.Limits.{payloads}
use Rattle.logic.proofs.Words.{size_pos}
use Rattle.words.proofs.Places.{at_end, at_within}
use Rattle.moves.proofs.Cases.{variable_case, kept_case, node_case, node_class, children_at, bit, deeper}
use Rattle.moves.proofs.Shifts.{bound_shifted, var_shifted, atom_kept, sign_kept, counts, Second, second, node_shifted}
use Rattle.moves.proofs.shift.+shift_within.Goals as goal

-- ---- the needs
pub offset_bounds-words-at : goal.offset_bounds-words-at
offset_bounds-words-at t c = let w = at_within c.requires.here in omega (arith, c.well_formed)

pub bounds-words-at : goal.bounds-words-at
bounds-words-at t c = at_within c.requires.here

pub shift_within-a-requires : goal.shift_within-a-requires
shift_within-a-requires t c =
    let h = children_at c.class_of.ensures (node_class c.in-Node.is) c.requires.here in
    let near : nat_abs (to_z w32 (of_z w32 c.args.amount)) ≤ payloads = rw (to_z-of_z c.ranges.amount) c.requires.near in
    let r = at_end c.requires.here in
    let a = size_pos h.first in
    (omega arith, record { term = h.first; here = h.left; fits = omega (arith, h.whole); deep = omega (arith, h.whole); near = near })

pub overflow_add-at-in-Node-2 : goal.overflow_add-at-in-Node-2
overflow_add-at-in-Node-2 t c =
    let h = children_at c.class_of.ensures (node_class c.in-Node.is) c.requires.here in
    let s : Second _ c.args.at c.requires.term c.shift_within-a.result = second _ _ _ h (at_within c.requires.here) c.shift_within-a.ensures in
    omega (arith, at_end c.requires.here, s.whole, c.well_formed)

pub shift_within-b-requires : goal.shift_within-b-requires
shift_within-b-requires t c =
    let h = children_at c.class_of.ensures (node_class c.in-Node.is) c.requires.here in
    let s : Second _ c.args.at c.requires.term c.shift_within-a.result = second _ _ _ h (at_within c.requires.here) c.shift_within-a.ensures in
    let near : nat_abs (to_z w32 (of_z w32 c.args.amount)) ≤ payloads = rw (to_z-of_z c.ranges.amount) c.requires.near in
    let k = c.shift_within-a.auto.words in
    let r = at_end c.requires.here in
    let b = bit c.eq.result in
    (omega (arith, s.whole), record { term = s.term; here = s.here; fits = omega (arith, s.whole); deep = omega (arith, s.whole); near = near })

pub overflow_add-result : goal.overflow_add-result
overflow_add-result t c =
    let h = children_at c.class_of.ensures (node_class c.in-Node.is) c.requires.here in
    let s : Second _ c.args.at c.requires.term c.shift_within-a.result = second _ _ _ h (at_within c.requires.here) c.shift_within-a.ensures in
    omega (arith, at_end c.requires.here, s.whole, c.well_formed)

pub overflow_add-result-in-Node : goal.overflow_add-result-in-Node
overflow_add-result-in-Node t c =
    let h = children_at c.class_of.ensures (node_class c.in-Node.is) c.requires.here in
    let s : Second _ c.args.at c.requires.term c.shift_within-a.result = second _ _ _ h (at_within c.requires.here) c.shift_within-a.ensures in
    omega (arith, at_end c.requires.here, s.whole, counts (c.shift_within-b.ensures s.term s.here), c.well_formed)

-- no more variables stand free than there are words
pub overflow_add-result-in-Node-2 : goal.overflow_add-result-in-Node-2
overflow_add-result-in-Node-2 t c =
    let h = children_at c.class_of.ensures (node_class c.in-Node.is) c.requires.here in
    let s : Second _ c.args.at c.requires.term c.shift_within-a.result = second _ _ _ h (at_within c.requires.here) c.shift_within-a.ensures in
    omega (arith, at_end c.requires.here, s.whole, s.few, counts (c.shift_within-b.ensures s.term s.here), c.well_formed)

-- ---- what is answered
pub returns-then-n-c : goal.returns-then-n-c
returns-then-n-c t c =
    variable_case _ c.class_of.ensures c.in-Variable.is
    (bound_shifted c.args.words.now c.args.at c.args.c c.args.amount c.payload_of-n.result c.payload_of-n.ensures c.if-n-c.true)

pub returns-else-n-c : goal.returns-else-n-c
returns-else-n-c t c =
    let p = c.payload_of-n in
    variable_case _ c.class_of.ensures c.in-Variable.is
    (var_shifted c.args.words.now c.args.at c.args.c c.args.amount p.result (to_z-of_z c.ranges.amount) (at_within c.requires.here) p.ensures c.if-n-c.false
    c.moved.ensures.0)

pub returns-in-Node : goal.returns-in-Node
returns-in-Node t c =
    node_case _ c.class_of.ensures (node_class c.in-Node.is)
    (λ o x y e h. node_shifted c.args.words.now c.args.at c.args.c c.args.amount o x y (to_z-of_z c.ranges.amount) (at_within c.requires.here)
    c.shift_within-a.ensures c.shift_within-b.ensures (deeper o c.args.c e c.eq.ensures c.from.ensures) h)

pub returns-in_default : goal.returns-in_default
returns-in_default t c =
    let o = c.in_default in
    kept_case _ c.class_of.ensures o.not-Variable o.not-Node o.not-Binder
    (λ a h. atom_kept _ _ _ _ _ a h (c.skip.ensures _ h)) (λ n q h. sign_kept _ _ _ _ _ n q h (c.skip.ensures _ h))
