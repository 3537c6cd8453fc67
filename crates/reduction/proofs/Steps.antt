-- The search for the first step finds it, and finds none exactly if no step applies.
use Prim.Native.Nat.{ℕ, suc, ◌+◌, ◌≤◌, ◌<◌}
use mathlib.Core.Path.{◌≡◌, refl, sym, ap, subst⁻¹}
use mathlib.Core.Logic.{◌↔◌, ◌≢◌}
use mathlib.Core.Bool.{Bool, true, false, cond}
use mathlib.Core.Option.{Option, some, none, map}
use native.Mathlib.Omega.{arith}
use lib.Dec.{eqb}
use borrow.Author.Tests.{eqb-true, eqb-false}
use Rattle.logic.specs.Term.{saysO, piO, lamO, appO, retO, bindO, Term, atom, var, sign, node, Lam, App, Ret, Bind, size}
use Rattle.logic.specs.Move.{lower, fill, occurs}
use Rattle.logic.specs.Infer.{Parts, parts}
use Rattle.logic.specs.Reading.{or_else}
use Rattle.logic.specs.Reduce.{Reduces, beta, bind_ret, bind_unused, step_function, step_lam, step_ret, step_bound, step_rest}
use Rattle.logic.proofs.Free.{fill_lower}
use Rattle.logic.proofs.Conditions.{parts_some}
use Rattle.logic.proofs.Faults.{parts_none}
use Rattle.reduction.specs.Steps.{next_step, step_place, FirstStep, Irreducible}

-- a place is one of the term's words
pub place_within : {t u : Term} (s : Reduces t u) → step_place s < size t
unfolding step_place size
place_within beta = omega arith
place_within bind_ret = omega arith
place_within (bind_unused o) = omega arith
place_within (step_function s) = let h = place_within s in omega arith
place_within (step_lam s) = let h = place_within s in omega arith
place_within (step_ret s) = let h = place_within s in omega arith
place_within (step_bound s) = let h = place_within s in omega arith
place_within (step_rest s) = let h = place_within s in omega arith

-- a place determines the step's result: where two rules fit at one place they give the same term
pub same_place : {t u v : Term} (s : Reduces t u) (s' : Reduces t v) → step_place s ≡ step_place s' → u ≡ v
unfolding step_place
same_place beta beta e = refl
same_place beta (step_function s) e = absurd (omega arith)
same_place (step_function s) beta e = absurd (omega arith)
same_place (step_function {e = x} s) (step_function s') e = ap (λ f. App f x) (same_place s s' (omega arith))
same_place (step_lam {d} s) (step_lam s') e = ap (λ b. Lam d b) (same_place s s' (omega arith))
same_place (step_ret {a} s) (step_ret s') e = ap (λ x. Ret a x) (same_place s s' (omega arith))
same_place bind_ret bind_ret e = refl
same_place (bind_ret {e = x} {b}) (bind_unused o) e = fill_lower 0 x b o
same_place bind_ret (step_bound s) e = absurd (omega arith)
same_place bind_ret (step_rest s) e = absurd (omega arith)
same_place (bind_unused o) (bind_ret {e = x} {b}) e = sym (fill_lower 0 x b o)
same_place (bind_unused o) (bind_unused o') e = refl
same_place (bind_unused o) (step_bound s) e = absurd (omega arith)
same_place (bind_unused o) (step_rest s) e = absurd (omega arith)
same_place (step_bound s) bind_ret e = absurd (omega arith)
same_place (step_bound s) (bind_unused o) e = absurd (omega arith)
same_place (step_bound {b} s) (step_bound s') e = ap (λ x. Bind x b) (same_place s s' (omega arith))
same_place (step_bound s) (step_rest s') e = let h = place_within s in absurd (omega arith)
same_place (step_rest s) bind_ret e = absurd (omega arith)
same_place (step_rest s) (bind_unused o) e = absurd (omega arith)
same_place (step_rest s) (step_bound s') e = let h = place_within s' in absurd (omega arith)
same_place (step_rest {e = x} s) (step_rest s') e = ap (λ b. Bind x b) (same_place s s' (omega arith))

-- so the first step gives one term only
pub one_first : {t u v : Term} → FirstStep t u → FirstStep t v → u ≡ v
one_first f g = let h = f.first _ g.taken in let k = g.first _ f.taken in same_place f.taken g.taken (omega arith)

-- Q holds of every place where a step from t is taken
abbrev All : Term → (ℕ → Type 0) → Type 0
All t Q = (v : Term) (s : Reduces t v) → Q (step_place s)

-- the places of a node are its own and those of its children

lam_all : (Q : ℕ → Type 0) (d b : Term) → All b (λ i. Q (suc (size d + i))) → All (Lam d b) Q
unfolding step_place
lam_all Q d b h v (step_lam s) = h _ s

ret_all : (Q : ℕ → Type 0) (a e : Term) → All e (λ i. Q (suc (size a + i))) → All (Ret a e) Q
unfolding step_place
ret_all Q a e h v (step_ret s) = h _ s

app_all : (Q : ℕ → Type 0) (f e : Term) → ((d b : Term) → f ≢ Lam d b) → All f (λ i. Q (suc i)) → All (App f e) Q
unfolding step_place
app_all Q f e n h v (beta {d} {b}) = absurd (n d b refl)
app_all Q f e n h v (step_function s) = h _ s

bind_all : (Q : ℕ → Type 0) (e b : Term) → ((a x : Term) → e ≢ Ret a x) → occurs 0 b ≢ 0 → All e (λ i. Q (suc i)) →
    All b (λ i. Q (suc (size e + i))) → All (Bind e b) Q
unfolding step_place
bind_all Q e b n o he hb v (bind_ret {a} {e = x}) = absurd (n a x refl)
bind_all Q e b n o he hb v (bind_unused z) = absurd (o z)
bind_all Q e b n o he hb v (step_bound s) = he _ s
bind_all Q e b n o he hb v (step_rest s) = hb _ s

-- what the search gives
abbrev Outcome : Term → Option Term → Type 0
Outcome t none = Irreducible t
Outcome t (some u) = FirstStep t u

-- a step at the root comes first
at_head : {t u : Term} (s : Reduces t u) → step_place s ≡ 0 → FirstStep t u
at_head s e = record { taken = s; first = λ v s'. omega arith }

beta_first : (d b e : Term) → FirstStep (App (Lam d b) e) (fill b e)
unfolding step_place
beta_first d b e = at_head beta refl

ret_first : (a e b : Term) → FirstStep (Bind (Ret a e) b) (fill b e)
unfolding step_place
ret_first a e b = at_head bind_ret refl

unused_first : (e b : Term) → occurs 0 b ≡ 0 → FirstStep (Bind e b) (lower b)
unfolding step_place
unused_first e b o = at_head (bind_unused o) refl

lam_outcome : (d b : Term) (q : Option Term) → Outcome b q → Outcome (Lam d b) (map (λ x. Lam d x) q)
unfolding step_place
lam_outcome d b none h = lam_all (λ i. ⊥) d b h
lam_outcome d b (some u) h = record {
  taken = step_lam h.taken;
  first = lam_all (λ i. suc (size d + step_place h.taken) ≤ i) d b λ v s. let k = h.first v s in omega arith;
}

ret_outcome : (a e : Term) (q : Option Term) → Outcome e q → Outcome (Ret a e) (map (λ x. Ret a x) q)
unfolding step_place
ret_outcome a e none h = ret_all (λ i. ⊥) a e h
ret_outcome a e (some u) h = record {
  taken = step_ret h.taken;
  first = ret_all (λ i. suc (size a + step_place h.taken) ≤ i) a e λ v s. let k = h.first v s in omega arith;
}

app_outcome : (f e : Term) (p : Option Parts) → parts lamO f ≡ p → (q : Option Term) → Outcome f q →
    Outcome (App f e) (or_else (map (λ p. fill p.right e) p) (or_else (map (λ x. App x e) q) none))
unfolding step_place
app_outcome f e (some p) m q h = subst⁻¹ (λ x. FirstStep (App x e) (fill p.right e)) (parts_some lamO f m) (beta_first p.left p.right e)
app_outcome f e none m none h = app_all (λ i. ⊥) f e (parts_none lamO f m) h
app_outcome f e none m (some u) h = record {
  taken = step_function h.taken;
  first = app_all (λ i. suc (step_place h.taken) ≤ i) f e (parts_none lamO f m) λ v s. let k = h.first v s in omega arith;
}

bind_outcome : (e b : Term) (p : Option Parts) → parts retO e ≡ p → (z : Bool) → eqb (occurs 0 b) 0 ≡ z → (q r : Option Term) → Outcome e q → Outcome b r →
    Outcome (Bind e b) (or_else (or_else (map (λ p. fill b p.right) p) (cond z (some (lower b)) none))
    (or_else (map (λ x. Bind x b) q) (map (λ x. Bind e x) r)))
unfolding step_place
bind_outcome e b (some p) m z o q r h k = subst⁻¹ (λ x. FirstStep (Bind x b) (fill b p.right)) (parts_some retO e m) (ret_first p.left p.right b)
bind_outcome e b none m true o q r h k = unused_first e b (eqb-true _ 0 o)
bind_outcome e b none m false o none none h k = bind_all (λ i. ⊥) e b (parts_none retO e m) (eqb-false _ 0 o) h k
bind_outcome e b none m false o none (some u) h k = record {
  taken = step_rest k.taken;
  first = bind_all (λ i. suc (size e + step_place k.taken) ≤ i) e b (parts_none retO e m) (eqb-false _ 0 o) (λ v s. absurd (h v s))
      λ v s. let l = k.first v s in omega arith;
}
bind_outcome e b none m false o (some u) r h k = record {
  taken = step_bound h.taken;
  first = bind_all (λ i. suc (step_place h.taken) ≤ i) e b (parts_none retO e m) (eqb-false _ 0 o) (λ v s. let l = h.first v s in omega arith)
      λ v s. let l = place_within h.taken in omega arith;
}

outcome : (t : Term) → Outcome t (next_step t)
unfolding next_step
outcome (atom a) = λ u. elim [ ]
outcome (var n) = λ u. elim [ ]
outcome (sign n q) = λ u. elim [ ]
outcome (node saysO a q) = λ u. elim [ ]
outcome (node piO d b) = λ u. elim [ ]
outcome (node lamO d b) = lam_outcome d b (next_step b) (outcome b)
outcome (node appO f e) = app_outcome f e (parts lamO f) refl (next_step f) (outcome f)
outcome (node retO a e) = ret_outcome a e (next_step e) (outcome e)
outcome (node bindO e b) = bind_outcome e b (parts retO e) refl (eqb (occurs 0 b) 0) refl (next_step e) (next_step b) (outcome e) (outcome b)

found : (t : Term) (q : Option Term) → next_step t ≡ q → Outcome t q
found t q e = rw e at (outcome t)

-- the search finds no step exactly if none applies
pub next_none : (t : Term) → (next_step t ≡ none) ↔ Irreducible t
next_none t = (found t none, λ n. go n (next_step t) refl)
  where
    go : Irreducible t → (q : Option Term) → next_step t ≡ q → q ≡ none
    go n none e = refl
    go n (some u) e = absurd (n u (found t (some u) e).taken)

-- the search finds the first step in word order, and nothing else
pub next_some : (t u : Term) → (next_step t ≡ some u) ↔ FirstStep t u
next_some t u = (found t (some u), λ f. go f (next_step t) refl)
  where
    go : FirstStep t u → (q : Option Term) → next_step t ≡ q → q ≡ some u
    go f none e = absurd (found t none e u f.taken)
    go f (some w) e = ap some (one_first (found t (some w) e) f)
