-- Steps of reduction, the first in word order. Their rules, and where they are used, are `Reduces` of `logic`.
-- Sentences in quotation marks here and in the modules after this one are document 02's, slip 9.
use Rattle.std.specs.Prelude.{ℕ, suc, ◌+◌, ◌≤◌, ◌≢◌, Bool, true, false, cond, eqb}
use Rattle.std.proofs.Math.Option.{Option, some, none, map}
use Rattle.logic.specs.Term.{Op, saysO, piO, lamO, appO, retO, bindO, Term, atom, var, sign, node, Lam, App, Ret, Bind, size}
use Rattle.logic.specs.Move.{lower, fill, occurs}
use Rattle.logic.specs.Infer.{parts}
use Rattle.logic.specs.Reading.{or_else}
use Rattle.logic.specs.Reduce.{Reduces, beta, bind_ret, bind_unused, step_function, step_lam, step_ret, step_bound, step_rest}

-- ---- the search for the first step

-- what a rule makes of a term, if one fits at its root, "with the first fitting rule in that list": "App of a Lam fills
-- its body; Bind of a Ret fills its body; Bind whose variable is unused gives its body, shifted"
abbrev pub contracted : Op → Term → Term → Option Term
contracted saysO a q = none
contracted piO d b = none
contracted lamO d b = none
contracted appO f e = map (λ p. fill p.right e) (parts lamO f)
contracted retO a e = none
contracted bindO e b = or_else (map (λ p. fill b p.right) (parts retO e)) (cond (eqb (occurs 0 b) 0) (some (lower b)) none)

-- "Steps aren't taken in arguments, domains, principals, propositions or signatures": of a node's first child they are
-- taken in the function of an App and in the proof of a Bind
abbrev pub steps_first : Op → Bool
steps_first saysO = false
steps_first piO = false
steps_first lamO = false
steps_first appO = true
steps_first retO = false
steps_first bindO = true

-- of its second child in the body of a Lam, the proof of a Ret and the body of a Bind
abbrev pub steps_second : Op → Bool
steps_second saysO = false
steps_second piO = false
steps_second lamO = true
steps_second appO = false
steps_second retO = true
steps_second bindO = true

-- one step, if a rule fits: "The first place in word order goes first", so a node before its children
unfoldable pub next_step : Term → Option Term
next_step (atom a) = none
next_step (var n) = none
next_step (sign n q) = none
next_step (node o a b) =
    or_else (contracted o a b) (or_else (cond (steps_first o) (map (λ x. node o x b) (next_step a)) none)
    (cond (steps_second o) (map (λ x. node o a x) (next_step b)) none))

-- ---- what it stands for, without the search

-- the word index at which a rule is used
unfoldable pub step_place : {t u : Term} → Reduces t u → ℕ
step_place beta = 0
step_place bind_ret = 0
step_place (bind_unused o) = 0
step_place (step_function s) = suc (step_place s)
step_place (step_lam {d} s) = suc (size d + step_place s)
step_place (step_ret {a} s) = suc (size a + step_place s)
step_place (step_bound s) = suc (step_place s)
step_place (step_rest {e} s) = suc (size e + step_place s)

-- the step at the first place in word order
pub record FirstStep (t u : Term) : Type 0 where
  pub taken : Reduces t u
  pub first : (v : Term) (s : Reduces t v) → step_place taken ≤ step_place s

-- no step applies
abbrev pub Irreducible : Term → Type 0
Irreducible t = (u : Term) → Reduces t u → ⊥

-- s stands in t at the word index i, where steps are taken: at the root, in an App's function, a Lam's body, a Ret's
-- proof, and both children of a Bind
pub data Position (s : Term) : ℕ → Term → Type 0 where
  at_root : Position s 0 s
  at_function : {i : ℕ} {f e : Term} → Position s i f → Position s (suc i) (App f e)
  at_lam : {i : ℕ} {d b : Term} → Position s i b → Position s (suc (size d + i)) (Lam d b)
  at_ret : {i : ℕ} {a e : Term} → Position s i e → Position s (suc (size a + i)) (Ret a e)
  at_bound : {i : ℕ} {e b : Term} → Position s i e → Position s (suc i) (Bind e b)
  at_rest : {i : ℕ} {e b : Term} → Position s i b → Position s (suc (size e + i)) (Bind e b)

-- no App of a Lam, no Bind of a Ret and no unused Bind stands at such a position
pub record Settled (t : Term) : Type 0 where
  pub no_app_lam : (i : ℕ) (d b e : Term) → Position (App (Lam d b) e) i t → ⊥
  pub no_bind_ret : (i : ℕ) (a e b : Term) → Position (Bind (Ret a e) b) i t → ⊥
  pub used : (i : ℕ) (e b : Term) → Position (Bind e b) i t → occurs 0 b ≢ 0
