-- Soundness: what the check `infer` gives as a type, a measured derivation gives.
use Prim.Native.Nat.{ℕ, ◌+◌}
use mathlib.Core.Path.{◌≡◌, subst}
use mathlib.Core.List.{List, [], ◌∷◌}
use lib.Dec.{eqb}
use lib.ListN.{get_elem?}
use borrow.Author.Tests.{eqb-true}
use Rattle.logic.specs.Result.{ok}
use Rattle.logic.specs.Term.{propA, typeA, stringA, prinA, kindPA, kindTA, constA, textA, nameA, saysO, piO, lamO, appO, retO, bindO, Term}
use Rattle.logic.specs.Term.{atom, var, sign, node, P, N, size}
use Rattle.logic.specs.Move.{raise, occurs}
use Rattle.logic.specs.Typing.{of_prop, Has, has_prop, has_type, has_string, has_prin, has_text, has_name, has_var, has_const, has_says}
use Rattle.logic.specs.Typing.{has_pi, has_lam, has_app, has_sign, has_ret, has_bind}
use Rattle.logic.specs.Scope.{Signature, Context, no_binder, binder}
use Rattle.logic.specs.Infer.{measured, domain, body, proposition, parts, infer}
use Rattle.logic.specs.Measured.{TypeSmall, Measured}
use Rattle.logic.proofs.Results.{not_ok, bound, tested, found}
use Rattle.logic.proofs.Regularity.{said_types, stratify}
use Rattle.logic.proofs.Proposition.{proposition_right}
use Rattle.logic.proofs.Conditions.{measured_ok, parts_some, domain_ok, body_ok, same_tested}

module _ (Σ : List Term) (sig : Signature Σ) where
  abbrev pub Checks : List Term → Term → Term → Type 0
  Checks Γ t A = (D : Has Σ Γ t A) × Measured D

  conclude : {Γ : List Term} {t X A : Term} (at : ℕ) (D : Has Σ Γ t X) → (TypeSmall X → Measured D) → measured at X ≡ ok A → Checks Γ t A
  conclude {Γ} {t} at D m e = let (s, p) = measured_ok at e in subst (λ X. Checks Γ t X) p (D, m s)

  pub sound : (t : Term) (Γ : List Term) (at : ℕ) {A : Term} → Context Σ Γ → infer Σ Γ at t ≡ ok A → Checks Γ t A
  unfolding infer Measured
  sound (atom propA) Γ at c e = conclude at has_prop (λ m. m) e
  sound (atom typeA) Γ at c e = conclude at has_type (λ m. m) e
  sound (atom stringA) Γ at c e = conclude at has_string (λ m. m) e
  sound (atom prinA) Γ at c e = conclude at has_prin (λ m. m) e
  sound (atom kindPA) Γ at c e = absurd (not_ok e)
  sound (atom kindTA) Γ at c e = absurd (not_ok e)
  sound (atom (constA n)) Γ at c e = found _ _ (get_elem? Σ n) _ e λ D p. conclude at (has_const p) (λ m. m)
  sound (atom (textA n)) Γ at c e = conclude at has_text (λ m. m) e
  sound (atom (nameA n)) Γ at c e = conclude at has_name (λ m. m) e
  sound (var n) Γ at c e = found _ _ (get_elem? Γ n) _ e λ D p. conclude at (has_var p) (λ m. m)
  sound (sign n q) Γ at c e =
      bound (infer Σ [] (at + 1) q) _ e λ s e₁ e₂. same_tested s P _ _ _ e₂ λ p e₃.
      let (h, k) = sound q [] (at + 1) no_binder (rw p at e₁) in
      conclude at (has_sign h) (λ m. (k, m)) e₃
  sound (node saysO a q) Γ at c e =
      bound (infer Σ Γ (at + 1) a) _ e λ s e₁ e₂. same_tested s N _ _ _ e₂ λ p e₃.
      bound (infer Σ Γ (at + 1 + size a) q) _ e₃ λ r e₄ e₅. same_tested r P _ _ _ e₅ λ p' e₆.
      let (h, k) = sound a Γ (at + 1) c (rw p at e₁) in
      let (h', k') = sound q Γ (at + 1 + size a) c (rw p' at e₄) in
      conclude at (has_says h h') (λ m. (k, k', m)) e₆
  sound (node piO d b) Γ at c e =
      bound (infer Σ Γ (at + 1) d) _ e λ s e₁ e₂. tested (domain s) _ _ _ e₂ λ p e₃.
      bound (infer Σ (d ∷ Γ) (at + 1 + size d) b) _ e₃ λ r e₄ e₅. tested (body r) _ _ _ e₅ λ p' e₆.
      let ds = domain_ok s p in
      let (h, k) = sound d Γ (at + 1) c e₁ in
      let (h', k') = sound b (d ∷ Γ) (at + 1 + size d) (binder c h ds) e₄ in
      conclude at (has_pi h ds h' (body_ok r p')) (λ m. (k, k', m)) e₆
  sound (node lamO d b) Γ at c e =
      bound (infer Σ Γ (at + 1) d) _ e λ s e₁ e₂. tested (domain s) _ _ _ e₂ λ p e₃.
      bound (infer Σ (d ∷ Γ) (at + 1 + size d) b) _ e₃ λ B e₄ e₅. tested (proposition B) _ _ _ e₅ λ p' e₆.
      let ds = domain_ok s p in
      let (h, k) = sound d Γ (at + 1) c e₁ in
      let (h', k') = sound b (d ∷ Γ) (at + 1 + size d) (binder c h ds) e₄ in
      conclude at (has_lam h ds h' ((proposition_right Σ sig (binder c h ds) h').1 p')) (λ m. (k, k', m)) e₆
  sound (node appO f x) Γ at c e =
      bound (infer Σ Γ (at + 1) f) _ e λ F e₁ e₂. found _ _ (parts piO F) _ e₂ λ p e₃ e₄.
      bound (infer Σ Γ (at + 1 + size f) x) _ e₄ λ E e₅ e₆. same_tested E p.left _ _ _ e₆ λ q e₇.
      let (h, k) = sound f Γ (at + 1) c (rw (parts_some piO F e₃) at e₁) in
      let (h', k') = sound x Γ (at + 1 + size f) c (rw q at e₅) in
      conclude at (has_app h h') (λ m. (k, k', m)) e₇
  sound (node retO a x) Γ at c e =
      bound (infer Σ Γ (at + 1) a) _ e λ s e₁ e₂. same_tested s N _ _ _ e₂ λ p e₃.
      bound (infer Σ Γ (at + 1 + size a) x) _ e₃ λ Q e₄ e₅. tested (proposition Q) _ _ _ e₅ λ p' e₆.
      let (h, k) = sound a Γ (at + 1) c (rw p at e₁) in
      let (h', k') = sound x Γ (at + 1 + size a) c e₄ in
      conclude at (has_ret h h' ((proposition_right Σ sig c h').1 p')) (λ m. (k, k', m)) e₆
  sound (node bindO x b) Γ at c e =
      bound (infer Σ Γ (at + 1) x) _ e λ E e₁ e₂. found _ _ (parts saysO E) _ e₂ λ p e₃ e₄.
      bound (infer Σ (p.right ∷ Γ) (at + 1 + size x) b) _ e₄ λ B e₅ e₆. found _ _ (parts saysO B) _ e₆ λ r e₇ e₈.
      same_tested r.left (raise 1 p.left) _ _ _ e₈ λ q e₉. tested (eqb (occurs 0 r.right) 0) _ _ _ e₉ λ z e₁₀.
      let (h, k) = sound x Γ (at + 1) c (rw (parts_some saysO E e₃) at e₁) in
      let c' = binder c (said_types Σ sig (stratify Σ sig c h)).1 of_prop in
      let (h', k') = sound b (p.right ∷ Γ) (at + 1 + size x) c' (rw (parts_some saysO B e₇, q) at e₅) in
      conclude at (has_bind h h' (eqb-true (occurs 0 r.right) 0 z)) (λ m. (k, k', m)) e₁₀
