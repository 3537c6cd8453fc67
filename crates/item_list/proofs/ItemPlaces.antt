-- The items of a batch's list by their places: what stands at one, and how many there are.
use Prim.Native.Nat.{ℕ, ◌+◌, ◌-◌, ◌≤◌, ◌<◌}
use native.Mathlib.Omega.{arith}
use mathlib.Core.Path.{◌≡◌, refl, sym, ap, ap₂, ◌∙◌}
use mathlib.Core.Bool.{Bool, true, false}
use mathlib.Core.List.{List, [], ◌∷◌, ◌++◌}
use mathlib.Core.Option.{some, none}
use lib.Dec.{leb, eqb}
use lib.ListN.{length, take, drop, get_or, length-append, length-drop, drop_of_length-le}
use lib.Seq.{drop-drop, get_or-drop, take_at, drop_at}
use native.Mathlib.Decide.{dec_lt}
use borrow.Author.Tests.{le-leb, lt-leb, eqb-true, eqb-false}
use Rattle.logic.proofs.Basics.{clash}
use Rattle.register.specs.Records.{Ask, item_head}
use Rattle.register.specs.Batch.{most_items, NextItem, no_item, cut_item, whole_item, next_item, item_before, items, item_words}
use Rattle.register.proofs.Batch.{next_item_right, next_item_ended, items_step}
use Rattle.std.specs.Prelude.{Some, None}
use Rattle.item_list.specs.Items.{item_end, ask_at}

-- ---- what the code found there

-- a whole item that ends at `end`
pub record WholeAt (day : ℕ) (ws : List ℕ) (at end : ℕ) : Type 0 where
  pub head : at + item_head ≤ end
  pub within : end ≤ length ws
  pub words : drop at ws ≡ item_words (ask_at day ws at end) ++ drop end ws
  pub is : items day (drop at ws) ≡ some (ask_at day ws at end) ∷ items day (drop end ws)

module _ (day : ℕ) (ws : List ℕ) (at : ℕ) where
  -- none, though words are left: it is cut short
  pub cut_there : at < length ws → None ≡ item_end at (next_item day (drop at ws)) → items day (drop at ws) ≡ none ∷ []
  cut_there h e = items_step day (drop at ws) ∙ go (next_item day (drop at ws)) refl e
    where
      go : (x : NextItem) → next_item day (drop at ws) ≡ x → None ≡ item_end at x → item_before (items day) x ≡ none ∷ []
      go no_item g f = absurd (omega (arith, h, length-drop at ws, ap length (next_item_ended day (drop at ws) g)))
      go cut_item g f = refl
      go (whole_item k rest) g f = absurd (clash (cc))

  pub whole_there : {end : ℕ} → Some end ≡ item_end at (next_item day (drop at ws)) → WholeAt day ws at end
  whole_there {end} e = go (next_item day (drop at ws)) refl e
    where
      found : (k : Ask) (rest : List ℕ) → next_item day (drop at ws) ≡ whole_item k rest → end ≡ at + item_head + length k.proof →
          WholeAt day ws at end
      found k rest f n =
          let (w, d) = (next_item_right day (drop at ws) k rest).0 f in
          let l : length (drop at ws) ≡ item_head + length k.proof + length rest = ap length w ∙ simp length-append (omega arith) in
          let p : end - (at + item_head) ≡ length k.proof = omega arith in
          let m : drop (at + item_head) ws ≡ k.proof ++ rest = sym (drop-drop item_head at ws) ∙ ap (drop item_head) w in
          let o : ask_at day ws at end ≡ k = λ j. record {
            operation = (sym (get_or-drop at ws 0 0) ∙ ap (λ (xs : List ℕ). get_or xs 0 0) w) j;
            extract = (sym (get_or-drop at ws 1 0) ∙ ap (λ (xs : List ℕ). get_or xs 1 0) w) j;
            delivery = (sym (get_or-drop at ws 2 0) ∙ ap (λ (xs : List ℕ). get_or xs 2 0) w) j;
            day = sym d j;
            proof = (ap₂ take p m ∙ take_at k.proof rest (length k.proof) refl) j;
          } in
          let t : rest ≡ drop end ws =
          sym (drop_at k.proof rest (length k.proof) refl) ∙ sym (ap (drop (length k.proof)) m)
          ∙ drop-drop (length k.proof) (at + item_head) ws ∙ ap (λ (i : ℕ). drop i ws) (sym n) in
          record {
            head = omega arith;
            within = omega (arith, l, length-drop at ws);
            words = w ∙ ap₂ (λ (x : Ask) (xs : List ℕ). item_words x ++ xs) (sym o) t;
            is = items_step day (drop at ws) ∙ ap (item_before (items day)) f
                ∙ ap₂ (λ (x : Ask) (xs : List ℕ). some x ∷ items day xs) (sym o) t;
          }

      go : (x : NextItem) → next_item day (drop at ws) ≡ x → Some end ≡ item_end at x → WholeAt day ws at end
      go no_item f g = absurd (clash (cc))
      go cut_item f g = absurd (clash (cc))
      go (whole_item k rest) f g = found k rest f (cc)

-- no item is left at the end of a list
pub no_items_left : (day : ℕ) (ws : List ℕ) (at : ℕ) → length ws ≤ at → items day (drop at ws) ≡ []
no_items_left day ws at g = ap (items day) (drop_of_length-le ws g) ∙ items_step day []

-- ---- how many there are

-- so many items stand before the place
pub record Counted (ws : List ℕ) (at count : ℕ) : Type 0 where
  pub sum : (day : ℕ) → length (items day ws) ≡ count + length (items day (drop at ws))

pub counted_next : {ws : List ℕ} {at end count : ℕ} → Counted ws at count → ((day : ℕ) → WholeAt day ws at end) → Counted ws end (count + 1)
counted_next h w = record { sum = λ day. omega (arith, h.sum day, ap length (w day).is) }

-- words are left, so an item is
some_items : (day : ℕ) (ws : List ℕ) → 1 ≤ length ws → 1 ≤ length (items day ws)
some_items day ws h = go (next_item day ws) refl (items_step day ws)
  where
    go : (x : NextItem) → next_item day ws ≡ x → items day ws ≡ item_before (items day) x → 1 ≤ length (items day ws)
    go no_item e f = absurd (omega (arith, h, ap length (next_item_ended day ws e)))
    go cut_item e f = omega (arith, ap length f)
    go (whole_item k rest) e f = omega (arith, ap length f)

-- the last is cut short, or none is left
pub last_counted : {ws : List ℕ} {at count : ℕ} → Counted ws at count → count < most_items →
    ((day : ℕ) → None ≡ item_end at (next_item day (drop at ws))) → (day : ℕ) → true ≡ leb (length (items day ws)) most_items
last_counted {ws} {at} h l e day =
    let few : length (items day ws) ≤ most_items = elim (dec_lt at (length ws)) [
      | yes g ↦ omega (arith, h.sum day, l, ap length (cut_there day ws at g (e day)))
      | no g ↦ omega (arith, h.sum day, l, ap length (no_items_left day ws at (omega arith)))
    ] in
    sym (le-leb (length (items day ws)) most_items few)

-- behind 16 items the list ends, or it has another
pub all_counted : {ws : List ℕ} {at : ℕ} → Counted ws at most_items → at ≤ length ws → (day : ℕ) →
    eqb at (length ws) ≡ leb (length (items day ws)) most_items
all_counted {ws} {at} h l day = go (eqb at (length ws)) refl
  where
    go : (b : Bool) → eqb at (length ws) ≡ b → b ≡ leb (length (items day ws)) most_items
    go true e =
        let f = eqb-true at (length ws) e in
        sym (le-leb (length (items day ws)) most_items (omega (arith, h.sum day, ap length (no_items_left day ws at (omega arith)))))
    go false e =
        let f = eqb-false at (length ws) e in
        let s = some_items day (drop at ws) (omega (arith, length-drop at ws)) in
        sym (lt-leb (length (items day ws)) most_items (omega (arith, h.sum day, s)))
