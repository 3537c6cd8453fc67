-- A term that has a derivation is refused by 12 alone.
use Prim.Native.Nat.{ℕ}
use mathlib.Core.Path.{◌≡◌, refl, sym, ◌∙◌}
use mathlib.Core.List.{List}
use Rattle.logic.specs.Refusals.{type_too_long}
use Rattle.logic.specs.Term.{Term}
use Rattle.logic.specs.Typing.{Has, has_prop, has_type, has_string, has_prin, has_text, has_name, has_var, has_const, has_says, has_pi, has_lam, has_app, has_sign, has_ret, has_bind}
use Rattle.logic.specs.Faults.{Faults, unbound, long_var, unknown, long_const, in_signed, bad_signed, long_sign, in_sayer, bad_sayer, in_said, bad_said}
use Rattle.logic.specs.Faults.{in_pi_domain, bad_pi_domain, in_pi_body, bad_pi_body, in_lam_domain, bad_lam_domain, in_lam_body, bad_lam_body}
use Rattle.logic.specs.Faults.{long_lam, in_function, function_not_pi, in_argument, argument_not_domain, long_app, in_ret_principal, bad_ret_principal}
use Rattle.logic.specs.Faults.{in_ret_proof, bad_ret_proof, long_ret, in_bound, bad_bound, in_rest, bad_rest, escapes, long_bind}
use Rattle.logic.proofs.Basics.{no_entry, left, right}
use Rattle.logic.proofs.Unique.{unique}

-- each condition of its rules holds, since types are unique: only a type's length is left to fault
pub derivable_long : {Σ Γ : List Term} {t A : Term} {m i : ℕ} → Has Σ Γ t A → Faults Σ Γ t m i → m ≡ type_too_long
derivable_long has_prop f = elim f [ ]
derivable_long has_type f = elim f [ ]
derivable_long has_string f = elim f [ ]
derivable_long has_prin f = elim f [ ]
derivable_long has_text f = elim f [ ]
derivable_long has_name f = elim f [ ]
derivable_long (has_var p) (unbound e) = absurd (no_entry (sym e ∙ p))
derivable_long (has_var p) (long_var e l) = refl
derivable_long (has_const p) (unknown e) = absurd (no_entry (sym e ∙ p))
derivable_long (has_const p) (long_const e l) = refl
derivable_long (has_says a q) (in_sayer f) = derivable_long a f
derivable_long (has_says a q) (bad_sayer D n) = absurd (n (unique D.0 a))
derivable_long (has_says a q) (in_said D f) = derivable_long q f
derivable_long (has_says a q) (bad_said D E n) = absurd (n (unique E.0 q))
derivable_long (has_pi d s b r) (in_pi_domain f) = derivable_long d f
derivable_long (has_pi d s b r) (bad_pi_domain D n) = absurd (n (rw (unique D.0 d) s))
derivable_long (has_pi d s b r) (in_pi_body D t f) = derivable_long b f
derivable_long (has_pi d s b r) (bad_pi_body D t E n) = absurd (n (rw (unique E.0 b) r))
derivable_long (has_lam d s b B) (in_lam_domain f) = derivable_long d f
derivable_long (has_lam d s b B) (bad_lam_domain D n) = absurd (n (rw (unique D.0 d) s))
derivable_long (has_lam d s b B) (in_lam_body D t f) = derivable_long b f
derivable_long (has_lam d s b B) (bad_lam_body D t E n) = absurd (n (rw (unique E.0 b) B))
derivable_long (has_lam d s b B) (long_lam D t E C l) = refl
derivable_long (has_app f e) (in_function g) = derivable_long f g
derivable_long (has_app f e) (function_not_pi D n) = absurd (n _ _ (unique D.0 f))
derivable_long (has_app f e) (in_argument D g) = derivable_long e g
derivable_long (has_app f e) (argument_not_domain D E n) = absurd (n (unique E.0 e ∙ left (unique f D.0)))
derivable_long (has_app f e) (long_app D E l) = refl
derivable_long (has_sign q) (in_signed f) = derivable_long q f
derivable_long (has_sign q) (bad_signed D n) = absurd (n (unique D.0 q))
derivable_long (has_sign q) (long_sign D l) = refl
derivable_long (has_ret a e q) (in_ret_principal f) = derivable_long a f
derivable_long (has_ret a e q) (bad_ret_principal D n) = absurd (n (unique D.0 a))
derivable_long (has_ret a e q) (in_ret_proof D f) = derivable_long e f
derivable_long (has_ret a e q) (bad_ret_proof D E n) = absurd (n (rw (unique E.0 e) q))
derivable_long (has_ret a e q) (long_ret D E Q l) = refl
derivable_long (has_bind e b o) (in_bound f) = derivable_long e f
derivable_long (has_bind e b o) (bad_bound D n) = absurd (n _ _ (unique D.0 e))
derivable_long (has_bind e b o) (in_rest D f) = derivable_long b (rw (right (unique D.0 e)) at f)
derivable_long (has_bind {r} e b o) (bad_rest D E n) = let p = unique D.0 e in absurd (n r (rw (left p) (unique (rw (right p) at E.0) b)))
derivable_long (has_bind e b o) (escapes D E n) = absurd (n (rw (right (unique (rw (right (unique D.0 e)) at E.0) b)) o))
derivable_long (has_bind e b o) (long_bind D E p l) = refl
