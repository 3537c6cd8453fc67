-- The laws of request 9.
use Prim.Native.Nat.{ℕ, ◌+◌}
use mathlib.Core.Path.{◌≡◌, subst}
use mathlib.Core.Logic.{◌⊎◌, inl, inr}
use mathlib.Core.List.{List, []}
use native.Mathlib.Omega.{arith}
use native.Mathlib.Decide.{dec_lt}
use lib.ListN.{length}
use Rattle.logic.specs.Refusals.{type_too_long, register_full}
use Rattle.logic.specs.Result.{ok, refused}
use Rattle.logic.specs.Term.{Term, encode}
use Rattle.logic.specs.Scope.{no_binder}
use Rattle.logic.specs.Check.{Passes}
use Rattle.logic.specs.Refused.{row_met, TermRefused}
use Rattle.logic.proofs.Unique.{unique}
use Rattle.logic.proofs.Faults.{decided}
use Rattle.logic.proofs.Derivable.{derivable_long}
use Rattle.register.specs.Records.{Ask, used, words_of}
use Rattle.register.specs.Calls.{Lent, entry, check_call, request_call}
use Rattle.register.specs.Succeeds.{Checkable, Grantable}
use Rattle.register.specs.Refuses.{Admitted, GoodRequest, check_typing, request_typing, request_16}
use Rattle.register.proofs.Shared.{signature_of}
use Rattle.register.proofs.Succeeds.{demand2}
use Rattle.register.proofs.Refuses.{demand1}
use Rattle.reduction.specs.Simplify.{FirstSteps}
use Rattle.reduction.specs.Laws.{with_proof, SimplifyLaws}
use Rattle.reduction.proofs.Steps.{next_none, next_some, one_first}
use Rattle.reduction.proofs.Positions.{position_stands, step_at, settled}
use Rattle.reduction.proofs.Simplify.{simplify_right, simplify_refused}
use Rattle.reduction.proofs.Types.{steps_typed, steps_signs, steps_words}
use Rattle.reduction.proofs.Refuses.{finished}

-- a result of a term that checks
module _ {l : Lent} {reg : List ℕ} {day : ℕ} {ws : List ℕ} {A : Term} {n : ℕ} {u : Term} (h : Checkable l reg day ws A) (s : FirstSteps n h.t u) where
  -- it has the type of the term, so that it passes with that type or is refused by 12
  passes : Passes h.Σ (encode u) u A ⊎ ((p : ℕ) × TermRefused h.Σ (encode u) type_too_long p)
  passes =
      let sig = signature_of h.ready in
      let w = steps_words sig s h.passes in
      let D = steps_typed h.Σ sig s h.passes.derivation in
      elim (decided h.Σ sig u [] no_binder w.plain) [
        | inl (B, (E, m)) ↦ inl (subst (Passes h.Σ (encode u) u) (unique E D) (record { term = w; derivation = E; measured = m }))
        | inr (m, p, F) ↦ inr (p, row_met w (rw (derivable_long D F) at F))
      ]

  abbrev admitted : Admitted l reg
  admitted = record { content = h.content; unbroken = h.unbroken; Σ = h.Σ; ready = h.ready }

  abbrev checkable : Passes h.Σ (encode u) u A → Checkable l reg day (encode u) A
  checkable p = record {
    content = h.content;
    unbroken = h.unbroken;
    Σ = h.Σ;
    ready = h.ready;
    t = u;
    passes = p;
    signs = λ m q e. h.signs m q (steps_signs s e);
  }

  checks : let answer = check_call l reg day (encode u) in (answer ≡ ok A) ⊎ ((p : ℕ) × (answer ≡ refused type_too_long p))
  checks = elim passes [
    | inl p ↦ inl ((demand2.checks l reg day (encode u) A).1 (checkable p))
    | inr (p, t) ↦ inr (p, ((demand1.checks l reg day (encode u)).refuses type_too_long p).1 (check_typing admitted t))
  ]

grants : {l : Lent} {reg : List ℕ} {k : Ask} {n : ℕ} {u : Term} (g : Grantable l reg k) → FirstSteps n g.proof.t u →
    let answer = request_call l reg (with_proof k u) in
    (answer ≡ ok tt) ⊎ (((p : ℕ) × (answer ≡ refused type_too_long p)) ⊎ (answer ≡ refused register_full 0))
grants {l} {reg} {k} {u} g s =
    let k' = with_proof k u in
    let refuses = (demand1.requests l reg k').refuses in
    let good : GoodRequest l k = (g.operation, g.extract, g.delivery) in
    elim (passes g.proof s) [
      | inl p ↦ elim (dec_lt (length reg) (used reg + length (words_of (entry k')))) [
        | yes n ↦ inr (inr ((refuses register_full 0).1 (request_16 good (checkable g.proof s p) g.not_before n)))
        | no n ↦ inl ((demand2.grants l reg k').1 (record {
          operation = g.operation;
          extract = g.extract;
          delivery = g.delivery;
          proof = checkable g.proof s p;
          not_before = g.not_before;
          room = omega arith;
        }))
      ]
      | inr (p, t) ↦ inr (inl (p, (refuses type_too_long p).1 (request_typing (record { admitted = admitted g.proof s; not_before = g.not_before }) good t)))
    ]

pub simplify_laws : SimplifyLaws
simplify_laws = record {
  finds_first = next_some;
  finds_none = next_none;
  one_first = one_first;
  settles = settled;
  stands = position_stands;
  stepped_at = step_at;
  gives = simplify_right;
  refuses = simplify_refused;
  same_type = λ {n} {Σ} sig s h. steps_typed Σ sig s h;
  signs = steps_signs;
  well_formed = steps_words;
  checks = λ l reg day ws budget room A r c s.
      let h = (demand2.checks l reg day ws A).0 c in checks h (finished l reg day ws budget room h s).0.taken;
  grants = λ l reg k budget room r c s.
      let g = (demand2.grants l reg k).0 c in grants g (finished l reg k.day k.proof budget room g.proof s).0.taken;
}
