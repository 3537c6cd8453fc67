-- A batch tested without writing answers as its requests in turn: the shared tests once, and each item on the first
-- register and on the items before it.
use Prim.Native.Nat.{ℕ, suc, ◌+◌}
use mathlib.Core.Path.{◌≡◌, refl, sym, ◌∙◌, ap, ap₂, subst, fun_ext}
use mathlib.Core.Bool.{Bool, true, false, ◌||◌, and-true, cond}
use mathlib.Core.List.{List, [], ◌∷◌, ◌++◌, map}
use mathlib.Core.Option.{Option, some, none}
use native.Mathlib.Omega.{arith}
use lib.Dec.{leb}
use lib.ListN.{length, length-append}
use borrow.Author.Tests.{le-leb}
use Rattle.logic.specs.Refusals.{bad_number}
use Rattle.logic.specs.Result.{Result, ok, refused}
use Rattle.logic.specs.Term.{Term, encode}
use Rattle.logic.proofs.Results.{not_ok}
use Rattle.register.specs.Records.{Ask, Content, Dated, covered, lapsed, unheld, receipt_dated, words_of, used_by, Unbroken}
use Rattle.register.specs.Records.{statements, some_of, says, serves, holding, states}
use Rattle.register.specs.Calls.{Lent, View, view, shared, on_register, entry, request_own, request_call}
use Rattle.register.specs.Batch.{most_items, items, asks, Batched, refused_at, after_item, at_index, in_turn, items_call}
use Rattle.register.specs.Batch.{all_entries, day_if, granted_words, GrantedInTurn, none_left, one_more}
use Rattle.register.specs.BatchTests.{AllOn, receipted, with_receipts, view_behind, items_own, at_start, items_once, TestedOnce}
use Rattle.register.specs.Succeeds.{Ready}
use Rattle.register.specs.Refuses.{SharedRefused}
use Rattle.register.specs.History.{Setting, grown}
use Rattle.register.proofs.Words.{Stores, words_grown}
use Rattle.register.proofs.Held.{some_of_append}
use Rattle.register.proofs.Batch.{granted_in_turn}
use Rattle.register.proofs.Shared.{shared_is, register_ok, outlined, stored}
use Rattle.register.proofs.SharedRefused.{register_stopped, register_stops}
use Rattle.register.proofs.Step.{entries_states, grown_states, content_behind, content_behind_is, items_day, tried, in_turn_tried, granted_step}

-- ---- what is held behind requests of the day

-- a receipt of the day covers it
receipts_serve : (day : ℕ) (ks : List Ask) → AllOn day ks → (a : ℕ) (q : List ℕ) →
    some_of (serves (some day) a q) (map receipt_dated ks) ≡ receipted ks a q
unfolding some_of AllOn
receipts_serve day [] h a q = refl
receipts_serve day (k ∷ ks) h a q = rw (le-leb k.day day (omega (arith, h.0)), and-true, receipts_serve day ks h.1 a q) refl

-- a Sign is held behind them by one of their receipts, or as before
holding_behind : (day : ℕ) (ds : List Dated) (ks : List Ask) → AllOn day ks → (a : ℕ) (q : List ℕ) →
    holding (some day) (ds ++ map receipt_dated ks) a q ≡ with_receipts ks (holding (some day) ds) a q
holding_behind day ds ks h a q =
    ap₂ (λ b c. cond b covered (cond c lapsed unheld))
    (some_of_append (serves (some day) a q) ds (map receipt_dated ks) ∙ ap (λ b. some_of (serves (some day) a q) ds || b) (receipts_serve day ks h a q))
    (some_of_append (says a q) ds (map receipt_dated ks))
    ∙ go (some_of (serves (some day) a q) ds) (some_of (says a q) ds) (receipted ks a q)
  where
    go : (b c r : Bool) → cond (b || r) covered (cond (c || r) lapsed unheld) ≡ cond r covered (cond b covered (cond c lapsed unheld))
    go true c true = refl
    go true c false = refl
    go false c true = refl
    go false true false = refl
    go false false false = refl

-- ---- what an item's tests see

entries_words : (ks : List Ask) → length (words_of (all_entries ks)) ≡ granted_words ks
unfolding words_of encode all_entries granted_words
entries_words [] = refl
entries_words (k ∷ ks) = let h = entries_words ks in let g = words_grown (entry k) (all_entries ks) in simp length-append (omega arith)

content_one_more : (c : Content) (ks : List Ask) (k : Ask) → content_behind c (ks ++ (k ∷ [])) ≡ grown (content_behind c ks) k.day (entry k)
unfolding content_behind
content_one_more c [] k = refl
content_one_more c (x ∷ ks) k = content_one_more (grown c x.day (entry x)) ks k

all_on_behind : {day : ℕ} (ks : List Ask) (k : Ask) → AllOn day ks → k.day ≡ day → AllOn day (ks ++ (k ∷ []))
unfolding AllOn
all_on_behind [] k h e = (e, tt)
all_on_behind (x ∷ ks) k h e = (h.0, all_on_behind ks k h.1 e)

module _ (l : Lent) {len : ℕ} {Σ : List Term} (c : Content) (ready : Ready l len Σ) (day : ℕ) where
  -- the verdict on the request k behind the requests ks of its day is one on the first content
  item_verdict : (ks : List Ask) (k : Ask) → AllOn day ks → k.day ≡ day →
      shared l (outlined len (content_behind c ks)) (ok (content_behind c ks)) (request_own k) ≡
      request_own k (view_behind ks day (view l (outlined len c) c Σ))
  item_verdict ks k h e =
      let c' = content_behind c ks in
      let is = content_behind_is c day ks h in
      let stated : statements c'.records ≡ statements c.records ++ map receipt_dated ks =
      ap (λ (x : Content). statements x.records) is
      ∙ grown_states c (day_if ks c.latest day) (all_entries ks) (map receipt_dated ks) (entries_states ks) in
      let held : holding (some k.day) (statements c'.records) ≡ with_receipts ks (holding (some k.day) (statements c.records)) =
      fun_ext λ a. fun_ext λ q. ap (λ ds. holding (some k.day) ds a q) stated
      ∙ holding_behind k.day (statements c.records) ks (subst (λ d. AllOn d ks) (sym e) h) a q in
      let last : c'.latest ≡ day_if ks c.latest day = ap (λ (x : Content). x.latest) is in
      let sum : used_by c'.records ≡ used_by c.records + granted_words ks =
      ap (λ (x : Content). used_by x.records) is ∙ omega (arith, words_grown c.records (all_entries ks), entries_words ks) in
      shared_is l (outlined len c') c' (request_own k) ready refl
      ∙ λ i. request_own k (record {
        Σ = Σ;
        n = l.n;
        holds = λ d. held i;
        stands = states (statements c.records);
        latest = last i;
        outline = record { size = len; used = sum i };
      })

  -- and on all items
  tried_own : (i : ℕ) (ks : List Ask) (xs : List (Option Ask)) → AllOn day ks → AllOn day (asks xs) →
      tried l len i (content_behind c ks) xs ≡ items_own day i ks xs (view l (outlined len c) c Σ)
  unfolding tried items_own asks AllOn
  tried_own i ks [] h g = refl
  tried_own i ks (none ∷ xs) h g = refl
  tried_own i ks (some k ∷ xs) h g =
      ap₂ (at_index i) (item_verdict ks k h g.0)
      (ap (λ x. tried l len (suc i) x xs) (sym (content_one_more c ks k)) ∙ tried_own (suc i) (ks ++ (k ∷ [])) xs (all_on_behind ks k h g.0) g.1)

module _ (l : Lent) (reg : List ℕ) where
  -- the shared tests refuse the register, or find a content and the constants' types
  settled : {Z : Type 0} → ((m p : ℕ) → SharedRefused l reg m p → Z) → ((c : Content) (Σ : List Term) → Unbroken reg c → Ready l (length reg) Σ → Z) → Z
  settled {Z} f g = go (on_register l reg (λ s. ok s)) refl
    where
      go : (r : Result View) → on_register l reg (λ s. ok s) ≡ r → Z
      go (refused m p) e = register_stopped l reg (λ s. ok s) e (f m p) (λ h e₁. absurd (not_ok (sym e₁)))
      go (ok s) e = register_ok l reg (λ s. ok s) e λ c Σ u ready sig e₁. g c Σ u ready

  -- the signature and n, which calls of a history share
  abbrev setting : Setting
  setting = record { sig = l.sig; n = l.n }

  -- the verdict on a request behind others, by registers
  verdict_behind : (reg' : List ℕ) (day : ℕ) (xs : List (Option Ask)) (k : Ask) → GrantedInTurn l reg xs reg' → AllOn day (asks xs) → k.day ≡ day →
      request_call l reg' k ≡ on_register l reg (λ s. request_own k (view_behind (asks xs) day s))
  verdict_behind reg' day xs k g h e = settled
      (λ m p r. ap (λ reg. request_call l reg k) (none_granted r g refl) ∙ register_stops l reg (request_own k) r ∙ sym (register_stops l reg own r))
      (λ c Σ u ready.
      let st : Stores (length reg) c reg = record { unbroken = u; size = refl } in
      let i = granted_in_turn l 0 g in
      let st₁ = (granted_step setting l.workspace st 0 xs (sym (in_turn_tried setting l.workspace st 0 xs) ∙ i.0)).stored in
      ap (λ reg. request_call l reg k) (sym i.1) ∙ stored st₁ l (request_own k) ∙ item_verdict l c ready day (asks xs) k h e
      ∙ sym (stored st l own ∙ shared_is l (outlined (length reg) c) c own ready refl))
    where
      own : View → Result (Unit {0})
      own s = request_own k (view_behind (asks xs) day s)

      -- where the shared tests refuse the register, no request was granted
      none_granted : {m p : ℕ} {reg₁ : List ℕ} {xs : List (Option Ask)} → SharedRefused l reg m p → GrantedInTurn l reg₁ xs reg' → reg₁ ≡ reg → reg' ≡ reg
      none_granted r none_left i = i
      none_granted r (one_more {k} u gs) i =
          absurd (not_ok (sym (register_stops l reg (request_own k) r) ∙ ap (λ reg. request_call l reg k) (sym i) ∙ u))

  items_once_right : (day : ℕ) (xs : List (Option Ask)) → AllOn day (asks xs) → items_call l reg day xs ≡ items_once l reg day xs
  unfolding in_turn content_behind AllOn
  items_once_right day [] h = refl
  items_once_right day (none ∷ xs) h = refl
  items_once_right day (some k ∷ xs) h = settled
      (λ m p r. ap (λ x. at_index 0 x (in_turn l (suc 0) (after_item l reg (some k)) xs)) (register_stops l reg (request_own k) r)
      ∙ sym (ap at_start (register_stops l reg own r)))
      (λ c Σ u ready.
      let st : Stores (length reg) c reg = record { unbroken = u; size = refl } in
      in_turn_tried setting l.workspace st 0 (some k ∷ xs) ∙ tried_own l c ready day 0 [] (some k ∷ xs) tt h
      ∙ sym (ap at_start (stored st l own ∙ shared_is l (outlined (length reg) c) c own ready refl)))
    where
      own : View → Result Batched
      own s = ok (items_own day 0 [] (some k ∷ xs) s)

pub tested_once : TestedOnce
tested_once = record {
  same_verdict = verdict_behind;
  same_answer = λ l reg day ws. ap (λ b. cond (leb (length (items day ws)) most_items) b (refused_at 0 bad_number 0))
      (items_once_right l reg day (items day ws) (items_day (length ws) day ws));
}
