-- Completeness: what a measured derivation gives, the check `infer` gives. With soundness, the check gives a
-- type exactly if a measured derivation does.
use Prim.Native.Nat.{ℕ}
use mathlib.Core.Path.{◌≡◌, refl}
use mathlib.Core.Logic.{◌↔◌}
use mathlib.Core.List.{List}
use borrow.Author.Tests.{eq-eqb}
use Rattle.logic.specs.Result.{ok}
use Rattle.logic.specs.Term.{Term}
use Rattle.logic.specs.Typing.{of_prop, Has, has_prop, has_type, has_string, has_prin, has_text, has_name, has_var, has_const, has_says}
use Rattle.logic.specs.Typing.{has_pi, has_lam, has_app, has_sign, has_ret, has_bind}
use Rattle.logic.specs.Scope.{Signature, Context, no_binder, binder}
use Rattle.logic.specs.Infer.{infer}
use Rattle.logic.specs.Measured.{Measured}
use Rattle.logic.proofs.Results.{bind_is, pass}
use Rattle.logic.proofs.Regularity.{said_types, stratify}
use Rattle.logic.proofs.Proposition.{same_yes, passes}
use Rattle.logic.proofs.Conditions.{measured_small, domain_is, body_is}
use Rattle.logic.proofs.Soundness.{sound}

module _ (Σ : List Term) (sig : Signature Σ) where
  pub complete : {Γ : List Term} {t A : Term} (at : ℕ) → Context Σ Γ → (D : Has Σ Γ t A) → Measured D → infer Σ Γ at t ≡ ok A
  unfolding infer Measured
  complete at c has_prop m = measured_small at m
  complete at c has_type m = measured_small at m
  complete at c has_string m = measured_small at m
  complete at c has_prin m = measured_small at m
  complete at c has_text m = measured_small at m
  complete at c has_name m = measured_small at m
  complete at c (has_var {Γ} {n} p) m = rw p (measured_small at m)
  complete at c (has_const {n} p) m = rw p (measured_small at m)
  complete at c (has_says a q) m =
      bind_is _ (complete _ c a m.0) (pass _ _ (same_yes refl)
      (bind_is _ (complete _ c q m.1) (pass _ _ (same_yes refl) (measured_small at m.2))))
  complete at c (has_pi d s b r) m =
      bind_is _ (complete _ c d m.0) (pass _ _ (domain_is s)
      (bind_is _ (complete _ (binder c d s) b m.1) (pass _ _ (body_is r) (measured_small at m.2))))
  complete at c (has_lam d s b B) m =
      bind_is _ (complete _ c d m.0) (pass _ _ (domain_is s)
      (bind_is _ (complete _ (binder c d s) b m.1) (pass _ _ (passes B) (measured_small at m.2))))
  complete at c (has_app f e) m =
      bind_is _ (complete _ c f m.0)
      (bind_is _ (complete _ c e m.1) (pass _ _ (same_yes refl) (measured_small at m.2)))
  complete at c (has_sign q) m = bind_is _ (complete _ no_binder q m.0) (pass _ _ (same_yes refl) (measured_small at m.1))
  complete at c (has_ret a e q) m =
      bind_is _ (complete _ c a m.0) (pass _ _ (same_yes refl)
      (bind_is _ (complete _ c e m.1) (pass _ _ (passes q) (measured_small at m.2))))
  complete at c (has_bind e b o) m =
      bind_is _ (complete _ c e m.0)
      (bind_is _ (complete _ (binder c (said_types Σ sig (stratify Σ sig c e)).1 of_prop) b m.1)
      (pass _ _ (same_yes refl) (pass _ _ (eq-eqb _ 0 o) (measured_small at m.2))))

  -- the check gives A exactly if a measured derivation does
  pub infer_right : {Γ : List Term} {t A : Term} (at : ℕ) → Context Σ Γ → (infer Σ Γ at t ≡ ok A) ↔ ((D : Has Σ Γ t A) × Measured D)
  infer_right {Γ} {t} at c = (sound Σ sig t Γ at c, λ D. complete at c D.0 D.1)
