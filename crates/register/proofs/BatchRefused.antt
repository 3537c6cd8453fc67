-- A batch answers exactly as specs/Refuses says.
use Prim.Native.Nat.{ℕ, ◌+◌, ◌≤◌}
use mathlib.Core.Path.{◌≡◌, refl, sym, ◌∙◌, ap, subst}
use mathlib.Core.Logic.{◌⊎◌, inl, inr, ◌↔◌}
use mathlib.Core.Bool.{Bool, true, false, cond}
use mathlib.Core.List.{List, [], ◌∷◌}
use mathlib.Core.Option.{Option, some, none}
use native.Mathlib.Omega.{arith}
use lib.Dec.{leb}
use lib.ListN.{length}
use borrow.Author.Tests.{leb-true, leb-false, le-leb, lt-leb}
use Rattle.logic.specs.Refusals.{bad_number, day_before_latest}
use Rattle.logic.specs.Result.{Result, ok, refused, require}
use Rattle.logic.proofs.Basics.{clash}
use Rattle.logic.proofs.Stopped.{require_failed, number_is, place_is}
use Rattle.register.specs.Records.{Ask}
use Rattle.register.specs.Calls.{Lent, on_register, day_test}
use Rattle.register.specs.Batch.{most_items, items, ItemsOf, Batched, all_granted, refused_at, item_call, at_index, items_call, batch_call, batch_leaves}
use Rattle.register.specs.Batch.{FailsInTurn, this_fails, later_fails}
use Rattle.register.specs.Succeeds.{Batchable}
use Rattle.register.specs.Refuses.{ItemRefused, item_cut, this_item, later_item, BatchRefused, batch_5, empty_shared, empty_23, batch_item, BatchAnswers}
use Rattle.register.proofs.Batch.{batches, in_turn_fails, fails_in_turn, items_in_turn}
use Rattle.register.proofs.Shared.{register_is}
use Rattle.register.proofs.Succeeds.{demand2}
use Rattle.register.proofs.SharedRefused.{register_stopped, register_stops}
use Rattle.register.proofs.RequestRefused.{request_refused}

-- an answer whose success and refusals are known is one answer
one_batch_answer : (b : Batched) {Success : Type 0} {Refusal : ℕ → ℕ → ℕ → Type 0} → (b ≡ all_granted) ↔ Success →
    ((i m p : ℕ) → (b ≡ refused_at i m p) ↔ Refusal i m p) → BatchAnswers b Success Refusal
one_batch_answer b {Success} {Refusal} s f = record {
  succeeds = s;
  refuses = f;
  either = go b refl;
  not_both = λ {i} {m} {p} h k. let e = sym (s.1 h) ∙ (f i m p).1 k in clash (cc);
  one_refusal = λ {i} {m} {p} {i'} {m'} {p'} h k. let e = sym ((f i m p).1 h) ∙ (f i' m' p').1 k in (cc, cc, cc);
}
  where
    go : (a : Batched) → b ≡ a → Success ⊎ ((i m p : ℕ) × Refusal i m p)
    go all_granted e = inl (s.0 e)
    go (refused_at i m p) e = inr (i, m, p, (f i m p).0 e)

-- the first item that fails is the one refused
module _ (l : Lent) where
  this_refused : {m p : ℕ} (reg : List ℕ) (x : Option Ask) (xs : List (Option Ask)) → item_call l reg x ≡ refused m p → ItemRefused l reg (x ∷ xs) 0 m p
  this_refused reg none xs e = rw (sym (number_is e), sym (place_is e)) item_cut
  this_refused {m} {p} reg (some k) xs e = this_item ((request_refused l reg k m p).0 e)

  item_refused : {reg : List ℕ} {xs : List (Option Ask)} {i m p : ℕ} → FailsInTurn l reg xs i m p → ItemRefused l reg xs i m p
  item_refused (this_fails {reg} {x} {xs} e) = this_refused reg x xs e
  item_refused (later_fails {reg} {k} e f) = later_item ((demand2.grants l reg k).0 e) (item_refused f)

  item_fails : {reg : List ℕ} {xs : List (Option Ask)} {i m p : ℕ} → ItemRefused l reg xs i m p → FailsInTurn l reg xs i m p
  item_fails item_cut = this_fails refl
  item_fails (this_item {reg} {k} {m} {p} r) = this_fails ((request_refused l reg k m p).1 r)
  item_fails (later_item {reg} {k} h r) = later_fails ((demand2.grants l reg k).1 h) (item_fails r)

  -- so there is an item
  some_item : {reg : List ℕ} {xs : List (Option Ask)} {i m p : ℕ} → ItemRefused l reg xs i m p → 1 ≤ length xs
  some_item item_cut = omega arith
  some_item (this_item r) = omega arith
  some_item (later_item h r) = omega arith

module _ (l : Lent) (reg : List ℕ) (day : ℕ) where
  batch_row : {xs : List (Option Ask)} {i m p i' m' p' : ℕ} → BatchRefused l reg day xs i' m' p' → i ≡ i' → m ≡ m' → p ≡ p' → BatchRefused l reg day xs i m p
  batch_row r z n q = rw (z, n, q) r

  -- a batch of the items xs
  abbrev of_items : List (Option Ask) → Bool → Batched
  of_items xs b = cond b (items_call l reg day xs) (refused_at 0 bad_number 0)

  items_refused : (xs : List (Option Ask)) (i m p : ℕ) → (of_items xs (leb (length xs) most_items) ≡ refused_at i m p) ↔ BatchRefused l reg day xs i m p
  items_refused xs i m p = (from (leb (length xs) most_items) refl, to)
    where
      -- no items: the shared tests or 23 refused
      idle : (r : Result (Unit {0})) → on_register l reg (day_test day) ≡ r → at_index 0 r all_granted ≡ refused_at i m p → BatchRefused l reg day [] i m p
      idle (ok _) h e = absurd (clash (cc))
      idle (refused m' p') h e =
          register_stopped l reg (day_test day) h (λ r. batch_row (empty_shared r) (cc) (cc) (cc)) λ a e₁.
          let (b, n, z) = require_failed (leb a.content.latest day) _ _ e₁ in
          batch_row (empty_23 a (leb-false a.content.latest day b)) (cc) (cc) (cc)

      called : (xs : List (Option Ask)) → length xs ≤ most_items → items_call l reg day xs ≡ refused_at i m p → BatchRefused l reg day xs i m p
      called [] h e = idle (on_register l reg (day_test day)) refl e
      called (x ∷ xs) h e =
          let (d, q, f) = in_turn_fails l 0 reg (x ∷ xs) e in
          let n : i ≡ d = omega arith in
          batch_row (batch_item h (item_refused l f)) n refl refl

      from : (b : Bool) → leb (length xs) most_items ≡ b → of_items xs b ≡ refused_at i m p → BatchRefused l reg day xs i m p
      from true h e = called xs (leb-true (length xs) most_items h) e
      from false h e = batch_row (batch_5 (leb-false (length xs) most_items h)) (cc) (cc) (cc)

      to : {xs : List (Option Ask)} {i m p : ℕ} → BatchRefused l reg day xs i m p → of_items xs (leb (length xs) most_items) ≡ refused_at i m p
      to (batch_5 {xs} h) = ap (of_items xs) (lt-leb (length xs) most_items h)
      to (empty_shared r) = ap (λ r. at_index 0 r all_granted) (register_stops l reg (day_test day) r)
      to (empty_23 h b) = ap (λ r. at_index 0 r all_granted)
          (register_is l reg (day_test day) h.unbroken h.ready (ap (λ b. require b day_before_latest 0) (lt-leb h.content.latest day b)))
      to (batch_item {xs} {i} {m} {p} h r) =
          let n : 0 + i ≡ i = omega arith in
          ap (of_items xs) (le-leb (length xs) most_items h) ∙ items_in_turn l reg day xs (some_item l r) ∙ fails_in_turn l 0 (item_fails l r)
          ∙ ap (λ j. refused_at j m p) n

  -- a batch of the words ws, which hold the items xs
  module _ (ws : List ℕ) (xs : List (Option Ask)) (o : ItemsOf day ws xs) where
    batch_refused : (i m p : ℕ) → (batch_call l reg day ws ≡ refused_at i m p) ↔ BatchRefused l reg day xs i m p
    batch_refused i m p = subst (λ xs. (batch_call l reg day ws ≡ refused_at i m p) ↔ BatchRefused l reg day xs i m p)
        ((batches.listed day ws xs).1 o) (items_refused (items day ws) i m p)

    pub batch_answers : BatchAnswers (batch_call l reg day ws) (Batchable l reg day xs) (BatchRefused l reg day xs)
    batch_answers = one_batch_answer (batch_call l reg day ws) (demand2.batches l reg day ws xs o) batch_refused

    pub batch_kept : {i m p : ℕ} → BatchRefused l reg day xs i m p → batch_leaves l reg day ws ≡ reg
    batch_kept {i} {m} {p} r = batches.unchanged l reg day ws i m p ((batch_refused i m p).1 r)
