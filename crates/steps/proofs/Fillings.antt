-- What a rule fills, and with what: all three fill a body. Where the variable of a Bind is unused, filling shifts.
use Prim.Native.Nat.{ℕ, ◌+◌, ◌≤◌}
use native.Mathlib.Omega.{arith}
use mathlib.Core.Path.{◌≡◌, refl, sym, subst}
use mathlib.Core.Bool.{Bool, true, false, cond}
use mathlib.Core.List.{List}
use mathlib.Core.Option.{Option, some, none, map}
use lib.Dec.{eqb}
use lib.ListN.{get_or}
use borrow.Author.Tests.{eqb-true, eqb-false}
use Rattle.logic.specs.Term.{Op, saysO, piO, lamO, appO, retO, bindO, Term, node, Lam, App, Ret, Bind, op_word, size}
use Rattle.logic.specs.Move.{lower, fill, occurs}
use Rattle.logic.specs.Infer.{Parts, parts}
use Rattle.logic.specs.Reading.{or_else}
use Rattle.logic.proofs.Basics.{clash, some_inj}
use Rattle.logic.proofs.Conditions.{parts_some}
use Rattle.logic.proofs.Free.{fill_lower}
use Rattle.words.specs.Place.{At, Stands}
use Rattle.words.proofs.Places.{at_head, at_left, at_right}
use Rattle.reduction.specs.Steps.{contracted}
use Rattle.steps.specs.Step.{FillingOf}
use Rattle.steps.proofs.Heads.{op_case, EndsAt, place_is_at, second_child_at}

-- ---- which rule fits

pub data FittingRule : Op → Term → Term → Term → Type 0 where
  app_lam : {d x e : Term} → FittingRule appO (Lam d x) e (fill x e)
  bind_of_ret : {p e x : Term} → FittingRule bindO (Ret p e) x (fill x e)
  bind_not_used : {e x : Term} → parts retO e ≡ none → occurs 0 x ≡ 0 → FittingRule bindO e x (lower x)

app_rule : (f e u : Term) (p : Option Parts) → parts lamO f ≡ p → map (λ p. fill p.right e) p ≡ some u → FittingRule appO f e u
app_rule f e u none m i = absurd (clash (cc))
app_rule f e u (some p) m i = subst (FittingRule appO f e) (some_inj i)
    (subst (λ f. FittingRule appO f e (fill p.right e)) (sym (parts_some lamO f m)) app_lam)

bind_rule : (e x u : Term) (p : Option Parts) → parts retO e ≡ p → (z : Bool) → eqb (occurs 0 x) 0 ≡ z →
    or_else (map (λ p. fill x p.right) p) (cond z (some (lower x)) none) ≡ some u → FittingRule bindO e x u
bind_rule e x u (some p) m z o i = subst (FittingRule bindO e x) (some_inj i)
    (subst (λ e. FittingRule bindO e x (fill x p.right)) (sym (parts_some retO e m)) bind_of_ret)
bind_rule e x u none m true o i = subst (FittingRule bindO e x) (some_inj i) (bind_not_used m (eqb-true _ 0 o))
bind_rule e x u none m false o i = absurd (clash (cc))

fitting_rule : (o : Op) (a b u : Term) → contracted o a b ≡ some u → FittingRule o a b u
fitting_rule saysO a b u e = absurd (clash (cc))
fitting_rule piO a b u e = absurd (clash (cc))
fitting_rule lamO a b u e = absurd (clash (cc))
fitting_rule appO a b u e = app_rule a b u (parts lamO a) refl e
fitting_rule retO a b u e = absurd (clash (cc))
fitting_rule bindO a b u e = bind_rule a b u (parts retO a) refl (eqb (occurs 0 b) 0) refl e

-- ---- places

-- the first child of a node's first child stands behind their two words
pub inner_at : {ws : List ℕ} {at : ℕ} {o o' : Op} {a b x : Term} → At ws at (node o (node o' a b) x) → At ws (at + 2) a
inner_at h = place_is_at _ (omega arith) (at_left (at_left h))

-- ---- an App, which is one of a Lam

pub record AppLam (ws : List ℕ) (at : ℕ) (t u : Term) : Type 0 where
  pub d : Term
  pub x : Term
  pub e : Term
  pub here : At ws at (App (Lam d x) e)
  pub whole : t ≡ App (Lam d x) e
  pub filled : fill x e ≡ u

module _ {ws : List ℕ} {at : ℕ} where
  pub app_parts : (o : Op) (a b u : Term) → At ws at (node o a b) → contracted o a b ≡ some u → get_or ws at 0 ≡ op_word appO → AppLam ws at (node o a b) u
  app_parts o a b u h c e = go h (fitting_rule o a b u c)
    where
      go : {o : Op} {a b u : Term} → At ws at (node o a b) → FittingRule o a b u → AppLam ws at (node o a b) u
      go h (app_lam {d} {x} {e = y}) = record { d = d; x = x; e = y; here = h; whole = refl; filled = refl }
      go h bind_of_ret = let i = at_head h in absurd (omega arith)
      go h (bind_not_used m z) = let i = at_head h in absurd (omega arith)

  module _ {t u : Term} (r : AppLam ws at t u) {body : ℕ} (k : EndsAt ws (at + 2) body) where
    pub lam_body_at : At ws body r.x
    lam_body_at = place_is_at _ (let i = k r.d (inner_at r.here) in omega arith) (at_right (at_left r.here))

    pub argument_at : {from : ℕ} → EndsAt ws body from → At ws from r.e
    unfolding size
    argument_at l = place_is_at _ (let i = k r.d (inner_at r.here) in let j = l r.x lam_body_at in omega arith) (at_right r.here)

    pub app_filling : {from end : ℕ} → EndsAt ws body from → EndsAt ws from end →
        FillingOf ws at t u (record { body = body; from = from; upto = end; end = end })
    unfolding size
    app_filling l m =
        let i = k r.d (inner_at r.here) in
        let j = l r.x lam_body_at in
        let n = m r.e (argument_at l) in
        rw r.whole (record {
          body = r.x;
          filler = r.e;
          body_at = lam_body_at;
          filler_at = argument_at l;
          filler_end = n;
          smaller = omega arith;
          end = omega arith;
          filled = r.filled;
        })

-- ---- a Bind, of a Ret or with a variable that is unused

-- the body is filled with f, which ends where the body begins
bind_filling : {ws : List ℕ} {at body from end : ℕ} {e x u f : Term} → At ws at (Bind e x) → EndsAt ws (at + 1) body → EndsAt ws body end → At ws from f →
    body ≡ from + size f → size f ≤ size e → fill x f ≡ u → FillingOf ws at (Bind e x) u (record { body = body; from = from; upto = body; end = end })
unfolding size
bind_filling {e = e} {x} {f = f} h k l g b z q =
    let i = k e (at_left h) in
    let j = l x (second_child_at h k) in
    record { body = x; filler = f; body_at = second_child_at h k; filler_at = g; filler_end = b; smaller = omega arith; end = omega arith; filled = q }

module _ {ws : List ℕ} {at body end : ℕ} (n : get_or ws at 0 ≡ op_word appO → ⊥) (k : EndsAt ws (at + 1) body) (l : EndsAt ws body end) where
  pub ret_filling : {from : ℕ} → eqb (get_or ws (at + 1) 0) (op_word retO) ≡ true → EndsAt ws (at + 2) from → (o : Op) (a b u : Term) → At ws at (node o a b) →
      contracted o a b ≡ some u → FillingOf ws at (node o a b) u (record { body = body; from = from; upto = body; end = end })
  unfolding size
  ret_filling {from} e m o a b u h c = go h (fitting_rule o a b u c)
    where
      go : {o : Op} {a b u : Term} → At ws at (node o a b) → FittingRule o a b u →
          FillingOf ws at (node o a b) u (record { body = body; from = from; upto = body; end = end })
      go h app_lam = absurd (n (at_head h))
      go h (bind_of_ret {p} {e = y}) =
          let i = m p (inner_at h) in
          let j = k (Ret p y) (at_left h) in
          bind_filling h k l (place_is_at from (omega arith) (at_right (at_left h))) (omega arith) (omega arith) refl
      go h (bind_not_used {e = y} {x} m z) =
          absurd (op_case (λ t. parts retO t ≡ none → ⊥) retO (eqb-true _ _ e) (λ a b i j. clash (cc)) y (at_left h) m)

  pub unused_filling : eqb (get_or ws (at + 1) 0) (op_word retO) ≡ false → (o : Op) (a b u : Term) → At ws at (node o a b) →
      contracted o a b ≡ some u → FillingOf ws at (node o a b) u (record { body = body; from = at + 1; upto = body; end = end })
  unused_filling e o a b u h c = go h (fitting_rule o a b u c)
    where
      go : {o : Op} {a b u : Term} → At ws at (node o a b) → FittingRule o a b u →
          FillingOf ws at (node o a b) u (record { body = body; from = at + 1; upto = body; end = end })
      go h app_lam = absurd (n (at_head h))
      go h bind_of_ret = absurd (eqb-false _ _ e (at_head (at_left h)))
      go h (bind_not_used {e = y} {x} m z) = bind_filling h k l (at_left h) (k y (at_left h)) (omega arith) (fill_lower 0 y x z)

-- the principal of a Ret
pub principal_stands : {ws : List ℕ} {at : ℕ} {o : Op} {a b : Term} → At ws at (node o a b) → eqb (get_or ws (at + 1) 0) (op_word retO) ≡ true →
    Stands ws (at + 2)
principal_stands {ws} {at} {a = a} h e = op_case (λ t. Stands ws (at + 2)) retO (eqb-true _ _ e)
    (λ p y i. record { term = p; here = place_is_at _ (omega arith) (at_left i) }) a (at_left h)
