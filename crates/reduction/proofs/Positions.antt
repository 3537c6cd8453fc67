-- The positions at which steps are taken: no step applies exactly if no rule fits at one of them.
use Prim.Native.Nat.{ℕ, suc, ◌+◌}
use mathlib.Core.Path.{◌≡◌}
use mathlib.Core.Logic.{◌↔◌}
use native.Mathlib.Omega.{arith}
use Rattle.logic.specs.Term.{Term, Lam, App, Ret, Bind}
use Rattle.logic.specs.Move.{occurs}
use Rattle.logic.specs.Reading.{SubtermAt, root, in_first, in_second}
use Rattle.logic.specs.Reduce.{Reduces, beta, bind_ret, bind_unused, step_function, step_lam, step_ret, step_bound, step_rest}
use Rattle.reduction.specs.Steps.{step_place, Irreducible, Position, at_root, at_function, at_lam, at_ret, at_bound, at_rest, Settled}

-- a position is a word index, as Reading counts them
pub position_stands : {s t : Term} {i : ℕ} → Position s i t → (d : ℕ) × SubtermAt s i d t
position_stands at_root = (1, root)
position_stands (at_function r) = let (d, st) = position_stands r in (suc d, in_first st)
position_stands (at_lam r) = let (d, st) = position_stands r in (suc d, in_second st)
position_stands (at_ret r) = let (d, st) = position_stands r in (suc d, in_second st)
position_stands (at_bound r) = let (d, st) = position_stands r in (suc d, in_first st)
position_stands (at_rest r) = let (d, st) = position_stands r in (suc d, in_second st)

-- a step at such a position is one of the whole, at its place
pub step_at : {s t v : Term} {i : ℕ} → Position s i t → (p : Reduces s v) → (u : Term) × (q : Reduces t u) × (step_place q ≡ i + step_place p)
unfolding step_place
step_at {v} at_root p = (v, p, omega arith)
step_at (at_function {e} r) p = let (u, q, h) = step_at r p in (App u e, step_function q, omega arith)
step_at (at_lam {d} r) p = let (u, q, h) = step_at r p in (Lam d u, step_lam q, omega arith)
step_at (at_ret {a} r) p = let (u, q, h) = step_at r p in (Ret a u, step_ret q, omega arith)
step_at (at_bound {b} r) p = let (u, q, h) = step_at r p in (Bind u b, step_bound q, omega arith)
step_at (at_rest {e} r) p = let (u, q, h) = step_at r p in (Bind e u, step_rest q, omega arith)

-- a term at whose root a rule fits
data RuleFits : Term → Type 0 where
  app_lam : {d b e : Term} → RuleFits (App (Lam d b) e)
  bind_of_ret : {a e b : Term} → RuleFits (Bind (Ret a e) b)
  bind_not_used : {e b : Term} → occurs 0 b ≡ 0 → RuleFits (Bind e b)

-- at the place of a step such a term stands
step_fits : {t u : Term} (p : Reduces t u) → (s : Term) × Position s (step_place p) t × RuleFits s
unfolding step_place
step_fits {t} beta = (t, at_root, app_lam)
step_fits {t} bind_ret = (t, at_root, bind_of_ret)
step_fits {t} (bind_unused o) = (t, at_root, bind_not_used o)
step_fits (step_function p) = let (s, r, f) = step_fits p in (s, at_function r, f)
step_fits (step_lam p) = let (s, r, f) = step_fits p in (s, at_lam r, f)
step_fits (step_ret p) = let (s, r, f) = step_fits p in (s, at_ret r, f)
step_fits (step_bound p) = let (s, r, f) = step_fits p in (s, at_bound r, f)
step_fits (step_rest p) = let (s, r, f) = step_fits p in (s, at_rest r, f)

-- no step applies exactly if no rule fits at the positions named
pub settled : (t : Term) → Irreducible t ↔ Settled t
settled t = (from, λ h u p. let (s, r, f) = step_fits p in fits h r f)
  where
    apply : {i : ℕ} {s v : Term} → Irreducible t → Position s i t → Reduces s v → ⊥
    apply n r p = let (u, q, h) = step_at r p in n u q

    from : Irreducible t → Settled t
    from n = record { no_app_lam = λ i d b e r. apply n r beta; no_bind_ret = λ i a e b r. apply n r bind_ret; used = λ i e b r o. apply n r (bind_unused o) }

    fits : {i : ℕ} {s : Term} → Settled t → Position s i t → RuleFits s → ⊥
    fits h r app_lam = h.no_app_lam _ _ _ _ r
    fits h r bind_of_ret = h.no_bind_ret _ _ _ _ r
    fits h r (bind_not_used o) = h.used _ _ _ r o
