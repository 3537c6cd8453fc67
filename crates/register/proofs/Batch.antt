-- A batch succeeds exactly when its requests in turn are granted, and else gives the first refusal.
use Prim.Native.Nat.{ℕ, zero, suc, ◌+◌, ◌≤◌}
use mathlib.Core.Path.{◌≡◌, refl, sym, ◌∙◌, ap, subst}
use mathlib.Core.Logic.{◌↔◌}
use mathlib.Core.Bool.{Bool, true, false, cond}
use mathlib.Core.List.{List, [], ◌∷◌, ◌++◌}
use mathlib.Core.Option.{Option, some, none}
use native.Mathlib.Omega.{arith}
use lib.Dec.{leb}
use lib.ListN.{length, take, drop, take-append-drop, length-append}
use lib.Seq.{take-append_seam, drop-append_seam, length-take-le}
use borrow.Author.Tests.{leb-true, le-leb, lt-leb}
use Rattle.logic.specs.Refusals.{bad_number}
use Rattle.logic.specs.Result.{Result, ok, refused}
use Rattle.logic.proofs.Basics.{clash}
use Rattle.register.specs.Records.{Ask, ask_of, appended, item_head}
use Rattle.register.specs.Calls.{Lent, entry, request_call, after_request}
use Rattle.register.specs.Batch.{most_items, NextItem, no_item, cut_item, whole_item, next_item, item_before, item_list, items, asks, item_words}
use Rattle.register.specs.Batch.{Batched, all_granted, refused_at, item_call, after_item, at_index, in_turn, items_call, batch_call, after_requests}
use Rattle.register.specs.Batch.{after_batch, ItemsOf, no_more, cut_short, one_item, GrantedInTurn, none_left, one_more, FailsInTurn, this_fails}
use Rattle.register.specs.Batch.{later_fails, SomeItems, Batches}

-- ---- the items of a list

-- a whole item is taken off exactly if its words stand in front
pub next_item_right : (day : ℕ) (ws : List ℕ) (k : Ask) (rest : List ℕ) →
    (next_item day ws ≡ whole_item k rest) ↔ ((ws ≡ item_words k ++ rest) × (k.day ≡ day))
next_item_right day ws k rest = (from ws, λ e. ap (next_item day) e.0 ∙ subst (λ d. next_item d (item_words k ++ rest) ≡ whole_item k rest) e.1 to)
  where
    -- an item with the head i, v, u, n
    front : (i v u n : ℕ) → List ℕ → Ask
    front i v u n ws = ask_of i v u day (take n ws)

    taken : (i v u n : ℕ) (ws : List ℕ) (b : Bool) → leb n (length ws) ≡ b → cond b (whole_item (front i v u n ws) (drop n ws)) cut_item ≡ whole_item k rest →
        (i ∷ v ∷ u ∷ n ∷ ws ≡ item_words k ++ rest) × (k.day ≡ day)
    taken i v u n ws true h e =
        let s : front i v u n ws ≡ k = cc in
        let r : drop n ws ≡ rest = cc in (
          subst (λ (t : Ask). i ∷ v ∷ u ∷ n ∷ ws ≡ item_words t ++ rest) s
              (subst (λ (x : List ℕ). i ∷ v ∷ u ∷ n ∷ ws ≡ i ∷ v ∷ u ∷ length (take n ws) ∷ (take n ws ++ x)) r
              (rw (length-take-le n ws (leb-true n (length ws) h), take-append-drop n ws) refl)),
          ap (λ (t : Ask). t.day) (sym s),
        )
    taken i v u n ws false h e = absurd (clash (cc))

    from : (ws : List ℕ) → next_item day ws ≡ whole_item k rest → (ws ≡ item_words k ++ rest) × (k.day ≡ day)
    from [] e = absurd (clash (cc))
    from (i ∷ []) e = absurd (clash (cc))
    from (i ∷ v ∷ []) e = absurd (clash (cc))
    from (i ∷ v ∷ u ∷ []) e = absurd (clash (cc))
    from (i ∷ v ∷ u ∷ n ∷ ws) e = taken i v u n ws (leb n (length ws)) refl e

    to : next_item k.day (item_words k ++ rest) ≡ whole_item k rest
    to =
        let fits : length k.proof ≤ length (k.proof ++ rest) = simp length-append (omega arith) in
        rw (le-leb (length k.proof) (length (k.proof ++ rest)) fits, take-append_seam k.proof rest, drop-append_seam k.proof rest) refl

-- so the words behind it are fewer
pub next_item_rest : (day : ℕ) (ws : List ℕ) {k : Ask} {rest : List ℕ} → next_item day ws ≡ whole_item k rest →
    length ws ≡ item_head + length k.proof + length rest
next_item_rest day ws {k} {rest} e = ap length ((next_item_right day ws k rest).0 e).0 ∙ simp length-append (omega arith)

-- a list with no item in front has no words
pub next_item_ended : (day : ℕ) (ws : List ℕ) → next_item day ws ≡ no_item → ws ≡ []
next_item_ended day [] e = refl
next_item_ended day (i ∷ []) e = absurd (clash (cc))
next_item_ended day (i ∷ v ∷ []) e = absurd (clash (cc))
next_item_ended day (i ∷ v ∷ u ∷ []) e = absurd (clash (cc))
next_item_ended day (i ∷ v ∷ u ∷ n ∷ ws) e = absurd (go (ask_of i v u day (take n ws)) (leb n (length ws)) e)
  where
    go : (k : Ask) (b : Bool) → cond b (whole_item k (drop n ws)) cut_item ≡ no_item → ⊥
    go k true e = clash (cc)
    go k false e = clash (cc)

-- a bound that is not below the list's length makes no difference
pub item_list_bound : (b b' day : ℕ) (ws : List ℕ) → length ws ≤ b → length ws ≤ b' → item_list b day ws ≡ item_list b' day ws
unfolding item_list
item_list_bound zero zero day ws h h' = refl
item_list_bound zero (suc b') day [] h h' = refl
item_list_bound zero (suc b') day (w ∷ ws) h h' = absurd (omega arith)
item_list_bound (suc b) zero day [] h h' = refl
item_list_bound (suc b) zero day (w ∷ ws) h h' = absurd (omega arith)
item_list_bound (suc b) (suc b') day ws h h' = go (next_item day ws) refl (λ ws. item_list_bound b b' day ws)
  where
    go : (x : NextItem) → next_item day ws ≡ x → ((ws : List ℕ) → length ws ≤ b → length ws ≤ b' → item_list b day ws ≡ item_list b' day ws) →
        item_before (item_list b day) x ≡ item_before (item_list b' day) x
    go no_item e ih = refl
    go cut_item e ih = refl
    go (whole_item k rest) e ih = let n = next_item_rest day ws e in ap (λ (l : List (Option Ask)). some k ∷ l) (ih rest (omega arith) (omega arith))

-- the items, one after another
pub items_step : (day : ℕ) (ws : List ℕ) → items day ws ≡ item_before (items day) (next_item day ws)
unfolding item_list
items_step day [] = refl
items_step day (w ∷ ws) = go (next_item day (w ∷ ws)) refl
  where
    go : (x : NextItem) → next_item day (w ∷ ws) ≡ x → item_before (item_list (length ws) day) x ≡ item_before (items day) x
    go no_item e = refl
    go cut_item e = refl
    go (whole_item k rest) e =
        let n = next_item_rest day (w ∷ ws) e in
        ap (λ (l : List (Option Ask)). some k ∷ l) (item_list_bound (length ws) (length rest) day rest (omega arith) (omega arith))

items_listed : (b day : ℕ) (ws : List ℕ) → length ws ≤ b → ItemsOf day ws (item_list b day ws)
unfolding item_list
items_listed zero day [] h = no_more
items_listed zero day (w ∷ ws) h = absurd (omega arith)
items_listed (suc b) day ws h = go (next_item day ws) refl (λ ws. items_listed b day ws)
  where
    go : (x : NextItem) → next_item day ws ≡ x → ((ws : List ℕ) → length ws ≤ b → ItemsOf day ws (item_list b day ws)) →
        ItemsOf day ws (item_before (item_list b day) x)
    go no_item e ih = subst (λ ws. ItemsOf day ws []) (sym (next_item_ended day ws e)) no_more
    go cut_item e ih = cut_short
        (λ (h : ws ≡ []). let f : next_item day [] ≡ cut_item = sym (ap (next_item day) h) ∙ e in clash (cc))
        (λ k rest h.
        let k' : Ask = record { operation = k.operation; extract = k.extract; delivery = k.delivery; day = day; proof = k.proof } in
        let f : whole_item k' rest ≡ cut_item = sym ((next_item_right day ws k' rest).1 (h, refl)) ∙ e in clash (cc))
    go (whole_item k rest) e ih =
        let n = next_item_rest day ws e in
        let r = (next_item_right day ws k rest).0 e in
        subst (λ ws. ItemsOf day ws (some k ∷ item_list b day rest)) (sym r.0) (one_item r.1 (ih rest (omega arith)))

listed_items : {day : ℕ} {ws : List ℕ} {xs : List (Option Ask)} → ItemsOf day ws xs → items day ws ≡ xs
listed_items {day} no_more = items_step day []
listed_items {day} (cut_short {ws} n m) = items_step day ws ∙ go (next_item day ws) refl
  where
    go : (x : NextItem) → next_item day ws ≡ x → item_before (items day) x ≡ none ∷ []
    go no_item e = absurd (n (next_item_ended day ws e))
    go cut_item e = refl
    go (whole_item k rest) e = absurd (m k rest ((next_item_right day ws k rest).0 e).0)
listed_items {day} (one_item {k} {rest} {xs} e h) =
    items_step day (item_words k ++ rest) ∙ ap (item_before (items day)) ((next_item_right day (item_words k ++ rest) k rest).1 (refl, e))
    ∙ ap (λ (l : List (Option Ask)). some k ∷ l) (listed_items h)

-- ---- one request after another

not_granted : {i m p : ℕ} → refused_at i m p ≡ all_granted → ⊥
not_granted e = clash (cc)

module _ (l : Lent) where
  -- all are granted, and the register is the one that they leave
  pub in_turn_granted : (i : ℕ) (reg : List ℕ) (xs : List (Option Ask)) → in_turn l i reg xs ≡ all_granted →
      GrantedInTurn l reg xs (after_requests l reg (asks xs))
  unfolding in_turn after_requests asks
  in_turn_granted i reg [] e = none_left
  in_turn_granted i reg (none ∷ xs) e = absurd (not_granted e)
  in_turn_granted i reg (some k ∷ xs) e = go (request_call l reg k) refl e (λ i reg. in_turn_granted i reg xs)
    where
      go : (r : Result (Unit {0})) → request_call l reg k ≡ r → at_index i r (in_turn l (suc i) (after_request r reg k) xs) ≡ all_granted →
          ((i : ℕ) (reg : List ℕ) → in_turn l i reg xs ≡ all_granted → GrantedInTurn l reg xs (after_requests l reg (asks xs))) →
          GrantedInTurn l reg (some k ∷ xs) (after_requests l (after_request r reg k) (asks xs))
      go (ok _) h e ih = one_more h (ih (suc i) (appended reg k.day (entry k)) e)
      go (refused m p) h e ih = absurd (not_granted e)

  pub granted_in_turn : (i : ℕ) {reg reg' : List ℕ} {xs : List (Option Ask)} → GrantedInTurn l reg xs reg' →
      (in_turn l i reg xs ≡ all_granted) × (after_requests l reg (asks xs) ≡ reg')
  unfolding in_turn after_requests asks
  granted_in_turn i none_left = (refl, refl)
  granted_in_turn i (one_more {reg} {reg'} {k} {xs} e g) =
      let h = granted_in_turn (suc i) g in
      (ap (λ r. at_index i r (in_turn l (suc i) (after_request r reg k) xs)) e ∙ h.0, ap (λ r. after_requests l (after_request r reg k) (asks xs)) e ∙ h.1)

  -- the first that fails
  pub in_turn_fails : (i : ℕ) (reg : List ℕ) (xs : List (Option Ask)) {j m p : ℕ} → in_turn l i reg xs ≡ refused_at j m p →
      (d : ℕ) × (j ≡ i + d) × FailsInTurn l reg xs d m p
  unfolding in_turn
  in_turn_fails i reg [] e = absurd (clash (cc))
  in_turn_fails i reg (none ∷ xs) {j} {m} {p} e = (let h : i ≡ j = cc in let g : item_call l reg none ≡ refused m p = cc in (0, omega arith, this_fails g))
  in_turn_fails i reg (some k ∷ xs) {j} {m} {p} e = go (request_call l reg k) refl e (λ i reg. in_turn_fails i reg xs)
    where
      go : (r : Result (Unit {0})) → request_call l reg k ≡ r → at_index i r (in_turn l (suc i) (after_request r reg k) xs) ≡ refused_at j m p →
          ((i : ℕ) (reg : List ℕ) → in_turn l i reg xs ≡ refused_at j m p → (d : ℕ) × (j ≡ i + d) × FailsInTurn l reg xs d m p) →
          (d : ℕ) × (j ≡ i + d) × FailsInTurn l reg (some k ∷ xs) d m p
      go (ok _) h e ih = let (d, q, f) = ih (suc i) (appended reg k.day (entry k)) e in (suc d, omega arith, later_fails h f)
      go (refused m' p') h e ih = let q : i ≡ j = cc in let g : item_call l reg (some k) ≡ refused m p = cc in (0, omega arith, this_fails g)

  pub fails_in_turn : (i : ℕ) {reg : List ℕ} {xs : List (Option Ask)} {d m p : ℕ} → FailsInTurn l reg xs d m p → in_turn l i reg xs ≡ refused_at (i + d) m p
  unfolding in_turn
  fails_in_turn i (this_fails {reg} {x} {xs} {m} {p} e) =
      let n : i ≡ i + 0 = omega arith in
      ap (λ r. at_index i r (in_turn l (suc i) (after_item l reg x) xs)) e ∙ ap (λ j. refused_at j m p) n
  fails_in_turn i (later_fails {reg} {k} {xs} {i = d} {m} {p} e f) =
      let n : suc i + d ≡ i + suc d = omega arith in
      ap (λ r. at_index i r (in_turn l (suc i) (after_request r reg k) xs)) e ∙ fails_in_turn (suc i) f ∙ ap (λ j. refused_at j m p) n

  -- a batch of 1 to 16 items is its items in turn
  pub items_in_turn : (reg : List ℕ) (day : ℕ) (xs : List (Option Ask)) → 1 ≤ length xs → items_call l reg day xs ≡ in_turn l 0 reg xs
  items_in_turn reg day [] h = absurd (omega arith)
  items_in_turn reg day (x ∷ xs) h = refl

  batch_in_turn : (reg : List ℕ) (day : ℕ) (ws : List ℕ) → SomeItems (items day ws) → batch_call l reg day ws ≡ in_turn l 0 reg (items day ws)
  batch_in_turn reg day ws h =
      ap (λ b. cond b (items_call l reg day (items day ws)) (refused_at 0 bad_number 0)) (le-leb (length (items day ws)) most_items h.1)
      ∙ items_in_turn reg day (items day ws) h.0

pub batches : Batches
unfolding item_list after_requests asks
batches = record {
  listed = λ day ws xs. ((λ e. subst (ItemsOf day ws) e (items_listed (length ws) day ws (omega arith))), listed_items);
  succeeds = λ l reg day ws h. (
    (λ e. (after_requests l reg (asks (items day ws)), in_turn_granted l 0 reg (items day ws) (sym (batch_in_turn l reg day ws h) ∙ e))),
    λ g. batch_in_turn l reg day ws h ∙ (granted_in_turn l 0 g.1).0,
  );
  leaves = λ l reg day ws reg' h g.
      ap (λ b. after_batch b l reg (asks (items day ws))) (batch_in_turn l reg day ws h ∙ (granted_in_turn l 0 g).0) ∙ (granted_in_turn l 0 g).1;
  fails = λ l reg day ws i m p h. (
    (λ e. let (d, q, f) = in_turn_fails l 0 reg (items day ws) (sym (batch_in_turn l reg day ws h) ∙ e) in
        let n : d ≡ i = omega arith in subst (λ d. FailsInTurn l reg (items day ws) d m p) n f),
    λ f. let n : 0 + i ≡ i = omega arith in batch_in_turn l reg day ws h ∙ fails_in_turn l 0 f ∙ ap (λ j. refused_at j m p) n,
  );
  unchanged = λ l reg day ws i m p e. ap (λ b. after_batch b l reg (asks (items day ws))) e;
  too_many = λ l reg day ws h. ap (λ b. cond b (items_call l reg day (items day ws)) (refused_at 0 bad_number 0))
      (lt-leb (length (items day ws)) most_items h);
  empty = λ l reg day. refl;
  empty_leaves = λ l reg day. empty_leaves l reg (batch_call l reg day []);
}
  where
    empty_leaves : (l : Lent) (reg : List ℕ) (b : Batched) → after_batch b l reg (asks (items 0 [])) ≡ reg
    empty_leaves l reg all_granted = refl
    empty_leaves l reg (refused_at i m p) = refl
