-- `derive` gives the type of a term, by recursion on its children: a return for each kind of leaf, for a Sign, and
-- for each of the four ways that the rule of a node ends. The measure is the nesting left.
use Prim.Native.Nat.{ℕ, ◌+◌, ◌-◌}
use native.Mathlib.Omega.{arith}
use mathlib.Core.Path.{sym, ap, ◌∙◌}
use mathlib.Core.List.{List, []}
use borrow.Author.Rules.{rules}
use denote.Enum.Bare.{same_true}
use Rattle.logic.specs.contracts.word.Class.{the_type}
use Rattle.logic.specs.Answer.{answer}
use Rattle.logic.specs.Term.{Op, Term, node}
use Rattle.logic.proofs.Answers.{handed_on}
use Rattle.logic.proofs.Searches.{depth_pos}
use Rattle.words.proofs.Places.{at_left, at_within}
use Rattle.moves.proofs.Cases.{NotLeaf}
use Rattle.typing.specs.Derive.{SubjectAt}
use Rattle.typing.proofs.Tails.{rest_length}
use Rattle.typing.proofs.Derives.{Derives, carried, atom_derived, variable_derived, sign_refused, sign_subject, sign_ready, signed_in, sign_derived}
use Rattle.typing.proofs.Derives.{NodeSubject, node_subject, node_derives, first_ready, two_deep, first_typed, first_refusal, test_refusal, AtSecond}
use Rattle.typing.proofs.Derives.{at_second, level, keep_fits, second_ready, second_refusal, formable, forms_here, node_derived}
use Rattle.typing.proofs.derive.+derive.Goals as goal
use Rattle.typing.proofs.derive.+derive.Goals.{In_default, Joined-eq, In_ok-entered-in_default, then-eq, else-eq}

-- ---- what several goals need
-- the class is of no leaf and no Sign
rest : (t : ℕ) (c : In_default t) → NotLeaf c.class_of.result
rest t c = record { no_atom = c.in_default.not-Atom; no_variable = c.in_default.not-Variable; no_sign = c.in_default.not-Sign }

-- a node stands ready
the_node : (t : ℕ) (c : In_default t)
    → NodeSubject c.args.constants.sig.now c.args.constants.table.now c.args.proof.now c.args.ws.now c.args.floor c.args.used c.args.at c.args.left
    c.requires.Σ c.requires.Γ
the_node t c = node_subject c.class_of.ensures (rest t c) c.requires.ready

-- its first child's type is derived
first : (t : ℕ) (c : Joined-eq t) → Derives c.args.constants.sig.now c.args.constants.table.now c.args.proof.now c.args.ws.now c.args.floor c.args.used
    (c.args.at + 1) (c.args.left - 1) c.if-eq.ws c.if-eq.typed
first t c = elim c.if-eq.branch [
  | then-eq w ↦ carried w.ws-is w.typed-is (atom_derived c.class_of-in_default.ensures (same_true the_type (search rules) _ _ (sym w.if-eq.ensures))
      w.atom-typed.auto.ws (omega (arith, c.requires.room)) w.atom-typed.ensures)
  | else-eq w ↦ carried w.ws-is w.typed-is w.derive-typed.ensures
]

-- and the test on it passed
second : (t : ℕ) (c : In_ok-entered-in_default t) {Σ Γ : List Term} {o : Op} {a b : Term}
    → Derives c.args.constants.sig.now c.args.constants.table.now c.args.proof.now c.args.ws.now c.args.floor c.args.used (c.args.at + 1) (c.args.left - 1)
    c.if-eq.ws c.if-eq.typed
    → SubjectAt c.args.constants.sig.now c.args.constants.table.now c.args.proof.now c.args.ws.now c.args.floor c.args.used c.args.at c.args.left
    Σ Γ (node o a b)
    → AtSecond c.args.constants.sig.now c.args.constants.table.now c.args.proof.now c.args.ws.now c.if-eq.ws c.enter.new.ws
    c.args.floor c.args.used c.args.at c.args.left
    c.in_ok-first-in_default.first.end c.in_ok-first-in_default.first.words c.in_ok-entered-in_default.entered.keep c.in_ok-entered-in_default.entered.used
    Σ Γ o a b
second t c d R =
    at_second _ R d _ c.enter.ensures (ap answer c.in_ok-first-in_default.was) (ap answer c.in_ok-entered-in_default.was) c.requires.below
    (c.enter.auto.ws ∙ c.if-eq.auto.ws) c.requires.room

-- ---- the needs
pub offset_bounds-proof-at : goal.offset_bounds-proof-at
offset_bounds-proof-at t c = let w = at_within c.requires.ready.here in omega arith

pub bounds-proof-at : goal.bounds-proof-at
bounds-proof-at t c = at_within c.requires.ready.here

pub overflow_sub-left : goal.overflow_sub-left
overflow_sub-left t c = let a = c.requires.ready.deep in let b = depth_pos c.requires.term in omega arith

pub derive-requires : goal.derive-requires
derive-requires t c =
    let p = c.requires in
    let S = sign_subject c.class_of.ensures c.in-Sign.is p.ready in
    let a = p.ready.deep in
    let b = depth_pos p.term in
    (omega arith, record { Σ = p.Σ; Γ = []; term = S.q; ready = sign_ready S.ready; short = p.short; below = omega arith; room = omega (arith, p.room) })

pub sign-requires : goal.sign-requires
sign-requires t c =
    let p = c.requires in
    let S = signed_in c.class_of.ensures c.in-Sign.is p.ready c.derive.ensures (ap answer c.in_ok-inner-in-Sign.was) in
    record { a = S.a; q = S.q; s = S.s; signs = S.signs; short = p.short; room = omega (arith, p.room, c.derive.auto.ws) }

pub overflow_add-head : goal.overflow_add-head
overflow_add-head t c = let w = at_within c.requires.ready.here in omega arith

pub offset_bounds-proof-at-in_default : goal.offset_bounds-proof-at-in_default
offset_bounds-proof-at-in_default t c =
    let N = the_node t (goal.at-offset_bounds-proof-at-in_default t c).In_default in let w = at_within (at_left N.ready.here) in omega arith

pub bounds-proof-at-in_default : goal.bounds-proof-at-in_default
bounds-proof-at-in_default t c = let N = the_node t (goal.at-bounds-proof-at-in_default t c).In_default in at_within (at_left N.ready.here)

pub overflow_add-at-else-eq : goal.overflow_add-at-else-eq
overflow_add-at-else-eq t c = let w = at_within c.requires.ready.here in omega arith

pub overflow_sub-left-else-eq : goal.overflow_sub-left-else-eq
overflow_sub-left-else-eq t c = let a = c.requires.ready.deep in let b = depth_pos c.requires.term in omega arith

pub derive-typed-requires : goal.derive-typed-requires
derive-typed-requires t c =
    let p = c.requires in
    let N = the_node t (goal.at-derive-typed-requires t c).In_default in
    let d = two_deep N.ready in
    (omega arith, record { Σ = p.Σ; Γ = p.Γ; term = N.a; ready = first_ready N.ready; short = p.short; below = p.below; room = omega (arith, p.room) })

pub enter-requires : goal.enter-requires
enter-requires t c =
    let p = c.requires in
    let N = the_node t (goal.at-enter-requires t c).In_default in
    let B = first_typed _ N.ready (first t (goal.at-enter-requires t c).Joined-eq) _ (ap answer c.in_ok-first-in_default.was) in
    record {
      o = N.o;
      a = N.a;
      A = B.type;
      enters = B.enters;
      small = omega (arith, B.enters.type_words, B.small);
      short = p.short;
      room = omega (arith, p.room, two_deep N.ready, c.if-eq.auto.ws);
    }

pub offset_bounds-ws-entered : goal.offset_bounds-ws-entered
offset_bounds-ws-entered t c =
    let N = the_node t (goal.at-offset_bounds-ws-entered t c).In_default in
    let F = first t (goal.at-offset_bounds-ws-entered t c).Joined-eq in
    let W = second t (goal.at-offset_bounds-ws-entered t c).In_ok-entered-in_default F N.ready in
    omega (arith, keep_fits W, W.same, c.well_formed.1.1.1.0)

pub slice_bounds-derive-count : goal.slice_bounds-derive-count
slice_bounds-derive-count t c =
    let N = the_node t (goal.at-slice_bounds-derive-count t c).In_default in
    let F = first t (goal.at-slice_bounds-derive-count t c).Joined-eq in
    let W = second t (goal.at-slice_bounds-derive-count t c).In_ok-entered-in_default F N.ready in
    keep_fits W

pub slice_bounds-derive-start : goal.slice_bounds-derive-start
slice_bounds-derive-start t c =
    let N = the_node t (goal.at-slice_bounds-derive-start t c).In_default in
    let F = first t (goal.at-slice_bounds-derive-start t c).Joined-eq in
    let W = second t (goal.at-slice_bounds-derive-start t c).In_ok-entered-in_default F N.ready in
    keep_fits W

pub overflow_sub-left-in_default : goal.overflow_sub-left-in_default
overflow_sub-left-in_default t c = let a = c.requires.ready.deep in let b = depth_pos c.requires.term in omega arith

pub derive-requires-in_default : goal.derive-requires-in_default
derive-requires-in_default t c =
    let p = c.requires in
    let N = the_node t (goal.at-derive-requires-in_default t c).In_default in
    let F = first t (goal.at-derive-requires-in_default t c).Joined-eq in
    let W = second t (goal.at-derive-requires-in_default t c).In_ok-entered-in_default F N.ready in (
      omega (arith, two_deep N.ready),
      record {
        Σ = p.Σ;
        Γ = _;
        term = N.b;
        ready = second_ready W;
        short = p.short;
        below = omega (arith, p.below, W.inside.kept_is);
        room = omega (arith, p.room, two_deep N.ready, level W, W.same, rest_length c.in_ok-entered-in_default.entered.keep c.enter.new.ws);
      },
    )

pub formed-requires : goal.formed-requires
formed-requires t c =
    let N = the_node t (goal.at-formed-requires t c).In_default in
    let F = first t (goal.at-formed-requires t c).Joined-eq in
    let W = second t (goal.at-formed-requires t c).In_ok-entered-in_default F N.ready in
    formable W _ c.derive-in_default.auto.ws c.derive-in_default.ensures _ (ap answer c.in_ok-second-in_default.was) c.requires.short

-- ---- what is answered
pub returns-in-Atom : goal.returns-in-Atom
returns-in-Atom t c = atom_derived c.class_of.ensures c.in-Atom.is c.atom.auto.ws (omega (arith, c.requires.room)) c.atom.ensures

pub returns-in-Variable : goal.returns-in-Variable
returns-in-Variable t c =
    variable_derived c.class_of.ensures c.in-Variable.is c.variable.auto.ws (omega (arith, c.requires.room)) c.payload_of.ensures c.variable.ensures

pub returns-in_err-inner-in-Sign : goal.returns-in_err-inner-in-Sign
returns-in_err-inner-in-Sign t c =
    sign_refused c.class_of.ensures c.in-Sign.is c.derive.ensures (ap answer c.in_err-inner-in-Sign.was) (handed_on _ _ c.from_residual.ensures)

pub returns-in_ok-inner-in-Sign : goal.returns-in_ok-inner-in-Sign
returns-in_ok-inner-in-Sign t c =
    λ Σ Γ u R. let S = signed_in c.class_of.ensures c.in-Sign.is R c.derive.ensures (ap answer c.in_ok-inner-in-Sign.was) in
    sign_derived S c.sign.auto.ws (omega (arith, c.requires.room, c.derive.auto.ws)) (c.sign.ensures S.a S.q S.s S.signs)

pub returns-in_err-first-in_default : goal.returns-in_err-first-in_default
returns-in_err-first-in_default t c =
    node_derives c.class_of.ensures (rest t (goal.at-returns-in_err-first-in_default t c).In_default) (λ Σ Γ o a b R.
    first_refusal _ R (first t (goal.at-returns-in_err-first-in_default t c).Joined-eq) (ap answer c.in_err-first-in_default.was)
    (handed_on _ _ c.from_residual-in_err-first-in_default.ensures))

pub returns-in_err-entered-in_default : goal.returns-in_err-entered-in_default
returns-in_err-entered-in_default t c =
    node_derives c.class_of.ensures (rest t (goal.at-returns-in_err-entered-in_default t c).In_default) (λ Σ Γ o a b R.
    test_refusal _ R (first t (goal.at-returns-in_err-entered-in_default t c).Joined-eq) _ c.enter.ensures (ap answer c.in_ok-first-in_default.was)
    (ap answer c.in_err-entered-in_default.was) (handed_on _ _ c.from_residual-in_err-entered-in_default.ensures))

pub returns-in_err-second-in_default : goal.returns-in_err-second-in_default
returns-in_err-second-in_default t c =
    let F = first t (goal.at-returns-in_err-second-in_default t c).Joined-eq in
    node_derives c.class_of.ensures (rest t (goal.at-returns-in_err-second-in_default t c).In_default) (λ Σ Γ o a b R.
    second_refusal (second t (goal.at-returns-in_err-second-in_default t c).In_ok-entered-in_default F R) _ c.derive-in_default.auto.ws
    c.derive-in_default.ensures (ap answer c.in_err-second-in_default.was) (handed_on _ _ c.from_residual-in_err-second-in_default.ensures))

pub returns-in_ok-second-in_default : goal.returns-in_ok-second-in_default
returns-in_ok-second-in_default t c =
    let F = first t (goal.at-returns-in_ok-second-in_default t c).Joined-eq in
    let q = ap answer c.in_ok-second-in_default.was in
    node_derives c.class_of.ensures (rest t (goal.at-returns-in_ok-second-in_default t c).In_default) (λ Σ Γ o a b R.
    let W = second t (goal.at-returns-in_ok-second-in_default t c).In_ok-entered-in_default F R in
    node_derived W _ c.derive-in_default.auto.ws c.derive-in_default.ensures _ q c.formed.auto.ws
    (c.formed.ensures o a b _ _ (forms_here W _ c.derive-in_default.auto.ws c.derive-in_default.ensures _ q)))
