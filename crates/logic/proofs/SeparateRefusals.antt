-- Document 02's separate refusals: what 18, 19 and 20 stand for, of every term; and its examples by computation.
use Prim.Native.Nat.{ℕ, ◌+◌, ◌≤◌}
use mathlib.Core.Path.{◌≡◌, refl}
use mathlib.Core.Logic.{◌⊎◌, inl, inr}
use mathlib.Core.List.{List}
use native.Mathlib.Decide.{ℕ_discrete}
use native.Mathlib.Omega.{arith}
use Rattle.logic.specs.Result.{refused}
use Rattle.logic.specs.Term.{Term, size, encode}
use Rattle.logic.specs.Move.{shift, fill_at, occurs}
use Rattle.logic.specs.Scope.{Signature, Context}
use Rattle.logic.specs.Faults.{Faults, unbound, long_var, unknown, long_const, in_signed, bad_signed, long_sign, in_sayer, bad_sayer, in_said, bad_said}
use Rattle.logic.specs.Faults.{in_pi_domain, bad_pi_domain, in_pi_body, bad_pi_body, in_lam_domain, bad_lam_domain, in_lam_body, bad_lam_body}
use Rattle.logic.specs.Faults.{long_lam, in_function, function_not_pi, in_argument, argument_not_domain, long_app, in_ret_principal, bad_ret_principal}
use Rattle.logic.specs.Faults.{in_ret_proof, bad_ret_proof, long_ret, in_bound, bad_bound, in_rest, bad_rest, escapes, long_bind}
use Rattle.logic.specs.Infer.{infer, same_term, conclusion}
use Rattle.logic.specs.Reading.{Plain, read, too_deep}
use Rattle.logic.specs.SignatureList.{constants}
use Rattle.logic.specs.SeparateRefusals.{Separate, separate_function, separate_argument, separate_escape, Subterm, itself, under_sign}
use Rattle.logic.specs.SeparateRefusals.{under_first, under_says, under_pi, under_lam}
use Rattle.logic.specs.Worked.{listed}
use Rattle.logic.specs.SeparateRefusals.{under_app, under_ret, under_bind, SeparateAt, SeparateRefusals, SeparateExamples}
use Rattle.logic.proofs.Completeness.{infer_right}
use Rattle.logic.proofs.Faults.{refuses, infer_refused}

-- the number is one of document 01's, or a term that breaks its condition stands at the index i
abbrev Stands : (Σ Γ : List Term) → Term → (m i : ℕ) → Type 0
Stands Σ Γ t m i = (m ≤ 12) ⊎ ((Δ : List Term) × (s : Term) × Subterm Σ Γ t i Δ s × Separate Σ Δ s m)

module _ (Σ : List Term) where
  -- from a child to its node
  deeper : {Γ Γ' : List Term} {t a : Term} {m i j : ℕ} → ((Δ : List Term) (s : Term) → Subterm Σ Γ' a i Δ s → Subterm Σ Γ t j Δ s) → Stands Σ Γ' a m i
      → Stands Σ Γ t m j
  deeper f (inl l) = inl l
  deeper f (inr (Δ, s, u, b)) = inr (Δ, s, f Δ s u, b)

  here : {Γ : List Term} {t : Term} {m : ℕ} → Separate Σ Γ t m → Stands Σ Γ t m 0
  here {Γ} {t} b = inr (Γ, t, itself, b)

  stands : {Γ : List Term} {t : Term} {m i : ℕ} → Faults Σ Γ t m i → Stands Σ Γ t m i
  stands (unbound _) = inl (omega arith)
  stands (long_var _ _) = inl (omega arith)
  stands (unknown _) = inl (omega arith)
  stands (long_const _ _) = inl (omega arith)
  stands (in_signed f) = deeper (λ _ _ u. under_sign u) (stands f)
  stands (bad_signed _ _) = inl (omega arith)
  stands (long_sign _ _) = inl (omega arith)
  stands (in_sayer f) = deeper (λ _ _ u. under_first u) (stands f)
  stands (bad_sayer _ _) = inl (omega arith)
  stands (in_said _ f) = deeper (λ _ _ u. under_says u) (stands f)
  stands (bad_said _ _ _) = inl (omega arith)
  stands (in_pi_domain f) = deeper (λ _ _ u. under_first u) (stands f)
  stands (bad_pi_domain _ _) = inl (omega arith)
  stands (in_pi_body _ _ f) = deeper (λ _ _ u. under_pi u) (stands f)
  stands (bad_pi_body _ _ _ _) = inl (omega arith)
  stands (in_lam_domain f) = deeper (λ _ _ u. under_first u) (stands f)
  stands (bad_lam_domain _ _) = inl (omega arith)
  stands (in_lam_body _ _ f) = deeper (λ _ _ u. under_lam u) (stands f)
  stands (bad_lam_body _ _ _ _) = inl (omega arith)
  stands (long_lam _ _ _ _ _) = inl (omega arith)
  stands (in_function f) = deeper (λ _ _ u. under_first u) (stands f)
  stands (function_not_pi D n) = here (separate_function D n)
  stands (in_argument _ f) = deeper (λ _ _ u. under_app u) (stands f)
  stands (argument_not_domain D E n) = here (separate_argument D E n)
  stands (long_app _ _ _) = inl (omega arith)
  stands (in_ret_principal f) = deeper (λ _ _ u. under_first u) (stands f)
  stands (bad_ret_principal _ _) = inl (omega arith)
  stands (in_ret_proof _ f) = deeper (λ _ _ u. under_ret u) (stands f)
  stands (bad_ret_proof _ _ _) = inl (omega arith)
  stands (long_ret _ _ _ _) = inl (omega arith)
  stands (in_bound f) = deeper (λ _ _ u. under_first u) (stands f)
  stands (bad_bound _ _) = inl (omega arith)
  stands (in_rest D f) = deeper (λ _ _ u. under_bind D.0 u) (stands f)
  stands (bad_rest _ _ _) = inl (omega arith)
  stands (escapes D E n) = here (separate_escape D E n)
  stands (long_bind _ _ _ _) = inl (omega arith)

  -- and each such term faults
  faults : {Γ : List Term} {t : Term} {m : ℕ} → Separate Σ Γ t m → Faults Σ Γ t m 0
  faults (separate_function D n) = function_not_pi D n
  faults (separate_argument D E n) = argument_not_domain D E n
  faults (separate_escape D E n) = escapes D E n

  module _ (sig : Signature Σ) where
    pub separate_refusals : SeparateRefusals Σ
    separate_refusals = record {
      accepts = infer_right Σ sig;
      stands = at_place;
      refuses = λ at c b. refuses Σ sig at c (faults b) at (omega arith);
      not_said = λ b at c D n. refuses Σ sig at c (bad_bound D n) at (omega arith);
      by_other = λ at c D E n. refuses Σ sig at c (bad_rest D E n) at (omega arith);
    }
      where
        at_place : {Γ : List Term} {m p : ℕ} (t : Term) (at : ℕ) → Context Σ Γ → Plain t → infer Σ Γ at t ≡ refused m p → (m ≤ 12) ⊎ SeparateAt Σ Γ at t m p
        at_place t at c pl e = let (i, f, q) = (infer_refused Σ sig t at c pl).0 e in go q (stands f)
          where
            go : {Γ : List Term} {t : Term} {at m p i : ℕ} → p ≡ at + i → Stands Σ Γ t m i → (m ≤ 12) ⊎ SeparateAt Σ Γ at t m p
            go q (inl l) = inl l
            go {i} q (inr (Δ, s, u, b)) = inr (record { index = i; place = q; scope = Δ; which = s; stands = u; broken = b })

pub separate_examples : SeparateExamples
unfolding infer same_term conclusion constants read too_deep shift fill_at occurs size encode ℕ_discrete listed
separate_examples = record {
  function_within = refl;
  argument_within = refl;
  escape_within = refl;
  by_other_within = refl;
  function_constant = refl;
  argument_constant = refl;
  escape = refl;
  escape_constant = refl;
}
