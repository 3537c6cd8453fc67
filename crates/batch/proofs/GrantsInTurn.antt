-- The grants of a batch one after another, and what a batch leaves.
use Prim.Native.Nat.{ℕ, ◌≤◌}
use native.Mathlib.Omega.{arith}
use mathlib.Core.Path.{◌≡◌, refl, sym, ap, subst, subst₂, ◌∙◌}
use mathlib.Core.List.{List, [], ◌∷◌}
use mathlib.Core.Option.{Option, some, none}
use lib.ListN.{length, drop}
use Rattle.logic.specs.Result.{ok}
use Rattle.logic.proofs.Basics.{clash}
use Rattle.register.specs.Records.{Ask, appended}
use Rattle.register.specs.Calls.{Lent, entry}
use Rattle.register.specs.Calls.{request_call}
use Rattle.register.specs.Batch.{items, next_item, asks, all_granted, batch_call, after_requests}
use Rattle.register.specs.Batch.{after_batch, GrantedInTurn, none_left, one_more}
use Rattle.register.proofs.Replaced.{batch_granted}
use native.Mathlib.Decide.{dec_lt}
use Rattle.item_list.specs.Items.{ask_at, item_end}
use Rattle.batch.specs.Answers.{BatchedAs, AllGranted, GrantRoom}
use Rattle.std.specs.Prelude.{Ok, None}
use Rattle.request.proofs.Grants.{grantable_now, grant_room}
use Rattle.item_list.proofs.ItemPlaces.{WholeAt, cut_there, no_items_left}

-- ---- the grants

-- the first of the items that are left is granted, and those behind it are on the register that it leaves
first_granted : {l : Lent} {reg reg' : List ℕ} {k : Ask} {xs ys : List (Option Ask)} → GrantedInTurn l reg ys reg' → ys ≡ some k ∷ xs →
    (request_call l reg k ≡ ok tt) × GrantedInTurn l (appended reg k.day (entry k)) xs reg'
first_granted none_left e = absurd (clash (cc))
first_granted {l} {k} {xs} (one_more {reg} {reg'} {k = k'} {xs = xs'} f g) e =
    let a : k' ≡ k = cc in
    let b : xs' ≡ xs = cc in
    (ap (request_call l reg) (sym a) ∙ f, subst₂ (λ (x : Ask) (ys : List (Option Ask)). GrantedInTurn l (appended reg x.day (entry x)) ys reg') a b g)

none_granted : {l : Lent} {reg reg' : List ℕ} {ys : List (Option Ask)} → GrantedInTurn l reg ys reg' → ys ≡ [] → reg ≡ reg'
none_granted none_left e = refl
none_granted (one_more f g) e = absurd (clash (cc))

cut_granted : {l : Lent} {reg reg' : List ℕ} {ys : List (Option Ask)} → GrantedInTurn l reg ys reg' → ys ≡ none ∷ [] → ⊥
cut_granted none_left e = clash (cc)
cut_granted (one_more f g) e = clash (cc)

-- the items before the place are granted: `now` is the register with them, and those behind are granted on it
pub record Granting (old now : List ℕ) (day : ℕ) (ws : List ℕ) (at : ℕ) : Type 0 where
  pub within : at ≤ length ws
  pub left : AllGranted now day (drop at ws)
  pub same : (l : Lent) (new : List ℕ) → GrantedInTurn l old (items day ws) new → GrantedInTurn l now (items day (drop at ws)) new

module _ {old now : List ℕ} {day : ℕ} {ws : List ℕ} {at : ℕ} (G : Granting old now day ws at) where
  -- no whole item stands there: none is cut short, so none is left
  pub grants_ended : None ≡ item_end at (next_item day (drop at ws)) → (l : Lent) (new : List ℕ) → GrantedInTurn l old (items day ws) new → now ≡ new
  grants_ended e l new g = elim (dec_lt at (length ws)) [
    | yes h ↦ absurd (cut_granted G.left.granted (cut_there day ws at h e))
    | no h ↦ none_granted (G.same l new g) (no_items_left day ws at (omega arith))
  ]

  -- a whole item that asks k
  module _ {end : ℕ} (w : WholeAt day ws at end) {k : Ask} (e : k ≡ ask_at day ws at end) where
    is : items day (drop at ws) ≡ some k ∷ items day (drop end ws)
    is = w.is ∙ ap (λ k. some k ∷ items day (drop end ws)) (sym e)

    pub room_left : GrantRoom now k
    room_left =
        let f = (first_granted G.left.granted is).0 in
        let H = grantable_now G.left.lent now k f in
        (omega (arith, H.operation, H.proof.ready.not_more), H.extract, H.delivery, grant_room G.left.lent now k f)

    pub granting_next : {new : List ℕ} → new ≡ appended now k.day (entry k) → Granting old new day ws end
    granting_next f = record {
      within = w.within;
      left = record {
        lent = G.left.lent;
        new = G.left.new;
        granted = subst (λ r. GrantedInTurn G.left.lent r (items day (drop end ws)) G.left.new) (sym f) (first_granted G.left.granted is).1;
      };
      same = λ l new g. subst (λ r. GrantedInTurn l r (items day (drop end ws)) new) (sym f) (first_granted (G.same l new g) is).1;
    }

pub granting_start : {reg : List ℕ} {day : ℕ} {ws : List ℕ} → AllGranted reg day ws → Granting reg reg day ws 0
granting_start a = record { within = omega arith; left = a; same = λ l new g. g }

-- ---- what a batch leaves

module _ (l : Lent) (reg : List ℕ) (day : ℕ) (ws : List ℕ) (e : batch_call l reg day ws ≡ all_granted) where
  pub granted_all : AllGranted reg day ws
  granted_all = record { lent = l; new = after_requests l reg (asks (items day ws)); granted = batch_granted l reg day ws e }

  pub batch_left : {new : List ℕ} → ((l : Lent) (last : List ℕ) → GrantedInTurn l reg (items day ws) last → new ≡ last) →
      BatchedAs l reg day ws new (Ok tt)
  batch_left g = record {
    answer = sym e;
    register = g l _ (batch_granted l reg day ws e) ∙ ap (λ b. after_batch b l reg (asks (items day ws))) (sym e);
  }
