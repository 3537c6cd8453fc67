-- A receipt sought among those of requests, request by request over a batch's list.
use Prim.Native.Nat.{ℕ, ◌+◌, ◌≤◌, ◌<◌}
use native.Mathlib.Omega.{arith}
use mathlib.Core.Path.{◌≡◌, refl, sym, ap, ◌∙◌}
use mathlib.Core.Bool.{Bool, true, false, ◌&&◌, cond}
use mathlib.Core.List.{List, [], ◌∷◌, ◌++◌}
use lib.ListN.{length, drop, get_or, length-append, length-drop}
use lib.Seq.{drop-drop, drop_at, get_or-drop}
use borrow.Author.Tests.{eq-eqb}
use Rattle.logic.specs.Limits.{payloads, most_operations}
use Rattle.logic.specs.Term.{Term}
use Rattle.register.specs.Records.{Ask, ask_of, receipt_words, receipt_dated, same_words, some_of, says}
use Rattle.register.specs.Records.{item_head, operation_word, extract_word, delivery_word, item_length_word}
use Rattle.register.specs.Calls.{Holding, signs_held}
use Rattle.register.specs.BatchTests.{receipted, with_receipts, asks_words, AllInRange, AskedBefore}
use Rattle.sought.proofs.ItemTells.{other_principal}
use Rattle.signs.specs.Answers.{SomeAsked}

-- no receipt is another's than the desk's
pub of_another : (a : ℕ) (q : List ℕ) (ks : List Ask) → (a ≡ 0 → ⊥) → false ≡ receipted ks a q
unfolding some_of
of_another a q [] ne = refl
of_another a q (k ∷ ks) ne =
    of_another a q ks ne ∙ ap (λ (b : Bool). cond b true (receipted ks a q)) (other_principal 0 (receipt_words k) a q (λ e. ne (sym e)))

desk_says : (a : ℕ) (q : List ℕ) (k : Ask) → a ≡ 0 → says a q (receipt_dated k) ≡ same_words (receipt_words k) q
desk_says a q k e = ap (λ (b : Bool). b && same_words (receipt_words k) q) (eq-eqb 0 a (sym e))

-- the requests `rest` are left from `at` on, and no receipt of those before them is the one sought
pub record LeftAsked (ws : List ℕ) (at a : ℕ) (q : List ℕ) (ks : List Ask) : Type 0 where
  pub rest : List Ask
  pub there : drop at ws ≡ asks_words rest
  pub in_range : AllInRange rest
  pub same : receipted ks a q ≡ receipted rest a q

-- for whatever requests the words are
abbrev pub Asking : List ℕ → (at a : ℕ) → List ℕ → Type 0
Asking ws at a q = (ks : List Ask) → AskedBefore ws ks → LeftAsked ws at a q ks

-- where the next request starts
abbrev pub next_ask : List ℕ → (at : ℕ) → ℕ
next_ask ws at = at + (item_head + get_or ws (at + item_length_word) 0)

-- the request at hand stands whole in the list, with numbers in range
pub record WholeAsk (ws : List ℕ) (at : ℕ) : Type 0 where
  pub operation : get_or ws (at + operation_word) 0 < most_operations
  pub extract : get_or ws (at + extract_word) 0 < payloads
  pub delivery : get_or ws (at + delivery_word) 0 < payloads
  pub fits : next_ask ws at ≤ length ws

module _ (ws : List ℕ) (at a : ℕ) (q : List ℕ) (s : Asking ws at a q) where
  -- the request with this day and proof, by its words
  abbrev here : (day : ℕ) (proof : List ℕ) → Ask
  here day proof = ask_of (get_or ws (at + operation_word) 0) (get_or ws (at + extract_word) 0) (get_or ws (at + delivery_word) 0) day proof

  -- the first request that is left, and those behind it
  record Turn (ks : List Ask) : Type 0 where
    pub day : ℕ
    pub proof : List ℕ
    pub whole : WholeAsk ws at
    pub rest : List Ask
    pub there : drop (next_ask ws at) ws ≡ asks_words rest
    pub in_range : AllInRange rest
    pub same : receipted ks a q ≡ cond (says a q (receipt_dated (here day proof))) true (receipted rest a q)

  turn : at < length ws → (ks : List Ask) → AskedBefore ws ks → Turn ks
  unfolding asks_words AllInRange some_of
  turn h ks b = let l = s ks b in go l.rest l.there l.in_range l.same
    where
      go : (rest : List Ask) → drop at ws ≡ asks_words rest → AllInRange rest → receipted ks a q ≡ receipted rest a q → Turn ks
      go [] w r e = absurd (omega (arith, length-drop at ws, ap length w))
      go (k ∷ rest) w r e =
          let o : get_or ws (at + operation_word) 0 ≡ k.operation =
          sym (get_or-drop at ws operation_word 0) ∙ ap (λ (l : List ℕ). get_or l operation_word 0) w in
          let v : get_or ws (at + extract_word) 0 ≡ k.extract =
          sym (get_or-drop at ws extract_word 0) ∙ ap (λ (l : List ℕ). get_or l extract_word 0) w in
          let u : get_or ws (at + delivery_word) 0 ≡ k.delivery =
          sym (get_or-drop at ws delivery_word 0) ∙ ap (λ (l : List ℕ). get_or l delivery_word 0) w in
          let n : get_or ws (at + item_length_word) 0 ≡ length k.proof =
          sym (get_or-drop at ws item_length_word 0) ∙ ap (λ (l : List ℕ). get_or l item_length_word 0) w in
          let far : next_ask ws at ≡ at + item_head + get_or ws (at + item_length_word) 0 = omega arith in
          let behind : drop (at + item_head) ws ≡ k.proof ++ asks_words rest = sym (drop-drop item_head at ws) ∙ ap (drop item_head) w in
          record {
            day = k.day;
            proof = k.proof;
            whole = record {
              operation = omega (arith, r.0);
              extract = omega (arith, r.1);
              delivery = omega (arith, r.2);
              fits = omega (arith, length-drop at ws, ap length w, length-append k.proof (asks_words rest));
            };
            rest = rest;
            there =
                ap (λ (j : ℕ). drop j ws) far
                ∙ sym (drop-drop (get_or ws (at + item_length_word) 0) (at + item_head) ws) ∙ ap (drop (get_or ws (at + item_length_word) 0)) behind
                ∙ drop_at k.proof (asks_words rest) (get_or ws (at + item_length_word) 0) (sym n);
            in_range = r.3;
            same = e ∙ rw (o, v, u) refl;
          }

  pub asking_whole : SomeAsked ws → at < length ws → WholeAsk ws at
  asking_whole r h = (turn h r.asked r.before).whole

  -- of the desk's receipts, with what the comparison with the one at hand tells
  module _ (h : at < length ws) (desk : a ≡ 0) (b : Bool) (told : (day : ℕ) (proof : List ℕ) →
      b ≡ same_words (receipt_words (here day proof)) q) where
    told_here : {ks : List Ask} (t : Turn ks) → receipted ks a q ≡ cond b true (receipted t.rest a q)
    told_here t =
        t.same ∙ ap (λ (x : Bool). cond x true (receipted t.rest a q)) (desk_says a q (here t.day t.proof) desk ∙ sym (told t.day t.proof))

    pub asking_found : b ≡ true → (ks : List Ask) → AskedBefore ws ks → true ≡ receipted ks a q
    asking_found e ks d =
        let t = turn h ks d in
        sym (told_here t ∙ ap (λ (x : Bool). cond x true (receipted t.rest a q)) e)

    pub asking_next : b ≡ false → Asking ws (next_ask ws at) a q
    asking_next e ks d =
        let t = turn h ks d in
        record {
          rest = t.rest;
          there = t.there;
          in_range = t.in_range;
          same = told_here t ∙ ap (λ (x : Bool). cond x true (receipted t.rest a q)) e;
        }

  pub asking_end : length ws ≤ at → (ks : List Ask) → AskedBefore ws ks → false ≡ receipted ks a q
  unfolding asks_words some_of
  asking_end h ks b = let l = s ks b in go l.rest l.there l.same
    where
      go : (rest : List Ask) → drop at ws ≡ asks_words rest → receipted ks a q ≡ receipted rest a q → false ≡ receipted ks a q
      go [] w e = sym e
      go (k ∷ rest) w e = absurd (omega (arith, length-drop at ws, ap length w))

-- no words are those of no request
pub none_asked : AskedBefore [] []
unfolding asks_words AllInRange
none_asked = record { words = refl; in_range = tt }

-- and without requests is known what is held
pub signs_behind_none : (h : Holding) (t : Term) → signs_held (with_receipts [] h) t ≡ signs_held h t
unfolding some_of
signs_behind_none h t = refl
