-- The search for the first step, by recursion on the children in which steps are taken: a node's own comes first, then
-- that of its first child, then that of its second. The measure is the number of words from the term's place to the end
-- of the list.
use Prim.Native.Nat.{ℕ, ◌+◌, ◌<◌}
use mathlib.Core.Path.{◌≡◌, refl, sym, ap, ◌∙◌}
use mathlib.Core.List.{List}
use mathlib.Core.Logic.{◌⊎◌, inl, inr}
use native.Mathlib.Omega.{arith}
use lib.ListN.{length, get_or}
use Rattle.std.proofs.lemmas.Bool.{eq-eqb, ne_eqb}
use Rattle.logic.specs.Term.{Op, lamO, appO, retO, bindO, op_word}
use Rattle.words.proofs.Places.{at_within, at_left}
use Rattle.steps.specs.Redex.{TermWithRoom, redex_answer}
use Rattle.steps.proofs.Redexes.{NodeHere, node_here, first_searchable, second_searchable}
use Rattle.steps.proofs.Redexes.{place_app_lam, place_app, place_bind_ret, place_unused, place_bound, place_rest, place_second, place_none}
use Rattle.steps.proofs.redex.+first_step.Goals as goal

-- the first child of a node is within the words
child_within : {ws : List ℕ} {at room : ℕ} {o : Op} → NodeHere ws at room o → at + 1 < length ws
child_within n = at_within (at_left n.here)

-- a Lam or a Ret, of the term that `requires` brought
second_node : {ws : List ℕ} {at room : ℕ} → (get_or ws at 0 ≡ op_word lamO) ⊎ (get_or ws at 0 ≡ op_word retO) → TermWithRoom ws at room →
    (o : Op) × NodeHere ws at room o
second_node e p = elim e [ inl e ↦ (lamO, node_here lamO e p) | inr e ↦ (retO, node_here retO e p) ]

-- ---- the needs

pub offset_bounds-words-at : goal.offset_bounds-words-at
offset_bounds-words-at t c = let r = at_within c.requires.here in omega arith

pub bounds-words-at : goal.bounds-words-at
bounds-words-at t c = let r = at_within c.requires.here in omega arith

-- ---- an App

pub bounds-words-at-in-167772160-1 : goal.bounds-words-at-in-167772160-1
bounds-words-at-in-167772160-1 t c = child_within (node_here appO c.in-167772160.is c.requires)

pub returns-in-167772160 : goal.returns-in-167772160
returns-in-167772160 t c = place_app_lam c.in-167772160.is (eq-eqb _ _ c.if-words-at-eq-LAM.true)

pub first_step-requires : goal.first_step-requires
first_step-requires t c =
    let n = node_here appO c.in-167772160.is c.requires in
    let r = child_within n in
    (omega arith, first_searchable n refl)

pub returns-in-167772160-2 : goal.returns-in-167772160-2
returns-in-167772160-2 t c = place_app c.in-167772160.is (ne_eqb _ _ c.if-words-at-eq-LAM.false) c.first_step.ensures

-- ---- a Bind

pub bounds-words-at-in-251658240-1 : goal.bounds-words-at-in-251658240-1
bounds-words-at-in-251658240-1 t c = child_within (node_here bindO c.in-251658240.is c.requires)

pub returns-in-251658240 : goal.returns-in-251658240
returns-in-251658240 t c = place_bind_ret c.in-251658240.is (eq-eqb _ _ c.if-words-at-eq-RET.true)

pub skip-body-requires : goal.skip-body-requires
skip-body-requires t c = let n = node_here bindO c.in-251658240.is c.requires in record { term = n.a; here = at_left n.here }

pub unused-requires : goal.unused-requires
unused-requires t c = second_searchable (node_here bindO c.in-251658240.is c.requires) refl c.skip-body.ensures

pub returns-then-unused : goal.returns-then-unused
returns-then-unused t c =
    place_unused c.in-251658240.is (ne_eqb _ _ c.if-words-at-eq-RET.false) c.skip-body.ensures λ b h. sym c.if-unused.true ∙ c.unused.ensures b h

pub first_step-requires-in-251658240-2 : goal.first_step-requires-in-251658240-2
first_step-requires-in-251658240-2 t c =
    let n = node_here bindO c.in-251658240.is c.requires in
    let r = child_within n in
    (omega arith, first_searchable n c.unused.auto.scratch)

pub returns-in-Some : goal.returns-in-Some
returns-in-Some t c =
    place_bound c.in-251658240.is (ne_eqb _ _ c.if-words-at-eq-RET.false) c.skip-body.ensures (λ b h. sym c.if-unused.false ∙ c.unused.ensures b h)
    refl (λ b h. ap redex_answer (sym c.in-Some.is) ∙ c.first_step-in-251658240-2.ensures b h)

pub first_step-requires-in-None : goal.first_step-requires-in-None
first_step-requires-in-None t c =
    let n = node_here bindO c.in-251658240.is c.requires in
    let r = child_within n in
    let l = c.skip-body.ensures _ (at_left n.here) in
    (omega arith, second_searchable n (c.first_step-in-251658240-2.auto.scratch ∙ c.unused.auto.scratch) c.skip-body.ensures)

pub returns-in-None : goal.returns-in-None
returns-in-None t c =
    place_rest c.in-251658240.is (ne_eqb _ _ c.if-words-at-eq-RET.false) c.skip-body.ensures (λ b h. sym c.if-unused.false ∙ c.unused.ensures b h)
    (ap redex_answer c.in-None.is) c.first_step-in-251658240-2.ensures c.first_step-in-None.ensures

-- ---- a Lam or a Ret

pub skip-second-requires : goal.skip-second-requires
skip-second-requires t c = let (o, n) = second_node c.in-150994944.is c.requires in record { term = n.a; here = at_left n.here }

pub first_step-requires-in-150994944 : goal.first_step-requires-in-150994944
first_step-requires-in-150994944 t c =
    let (o, n) = second_node c.in-150994944.is c.requires in
    let r = at_within c.requires.here in
    let l = c.skip-second.ensures _ (at_left n.here) in
    (omega arith, second_searchable n refl c.skip-second.ensures)

pub returns-in-150994944 : goal.returns-in-150994944
returns-in-150994944 t c = place_second c.in-150994944.is c.skip-second.ensures c.first_step-in-150994944.ensures

-- ---- another word

pub returns-in_default : goal.returns-in_default
returns-in_default t c = place_none (λ e. omega arith) (λ e. omega arith) (λ e. grind arith) (λ e. grind arith)
