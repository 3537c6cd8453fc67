-- What is proved of the logic: words are read right, the check meets the rules, and the rules' own laws.
use Rattle.std.specs.Prelude.{ℕ, suc, ◌+◌, ◌≡◌, ◌↔◌, ◌⊎◌, true, List, [], ◌∷◌, ◌++◌, pos, length}
use Rattle.std.proofs.Math.Option.{Option, some}
use Rattle.logic.specs.Refusals.{malformed, bad_signature, type_too_long}
use Rattle.logic.specs.Result.{ok, refused}
use Rattle.logic.specs.Term.{Term, P, KindP, KindT, encode}
use Rattle.logic.specs.Move.{shift, raise, lower, fill, fill_at, occurs}
use Rattle.logic.specs.Typing.{Has}
use Rattle.logic.specs.Scope.{Context, Sort}
use Rattle.logic.specs.FreeVariables.{FreeLaws}
use Rattle.logic.specs.Reduce.{Reduces}
use Rattle.logic.specs.Reading.{read_whole, Plain, Malformed, too_deep, FirstTooDeep, Miss, first_miss, FirstMiss}
use Rattle.logic.specs.Infer.{infer, proposition}
use Rattle.logic.specs.Faults.{HasMeasured, Faults}
use Rattle.logic.specs.Check.{check_term, Passes, check_statement, Stated}
use Rattle.logic.specs.Refused.{TermRefused, StatementRefused, BadConstant}
use Rattle.logic.specs.SignatureList.{signature, Lists}
use Rattle.logic.proofs.Substitution.{entries}
use Rattle.logic.proofs.Places.{Fault}

-- words, whatever the signature
pub record WordLaws : Type 0 where
  -- they are read as a term exactly if they are its encoding; the place of malformed ones
  pub reads : (ws : List ℕ) (t : Term) → (read_whole ws ≡ ok t) ↔ (Plain t × (ws ≡ encode t))
  pub malformed_at : (ws : List ℕ) (m p : ℕ) → (read_whole ws ≡ refused m p) ↔ ((m ≡ malformed) × Malformed ws p)
  -- the first word too deep, and the first Sign that is refused
  pub deep_at : (t : Term) (left at p : ℕ) → (too_deep left at t ≡ some p) ↔ FirstTooDeep left at t p
  pub missed_at : (refuses : ℕ → Term → Option ℕ) (t : Term) (at : ℕ) (m : Miss) → (first_miss refuses at t ≡ some m) ↔ FirstMiss refuses at t m
  -- a signature list is accepted exactly if it lists constants, and refused exactly at its first bad one
  pub accepts : (ws : List ℕ) (Σ : List Term) → (signature ws ≡ ok Σ) ↔ Lists [] ws Σ
  pub bad_at : (ws : List ℕ) (m p : ℕ) → (signature ws ≡ refused m p) ↔ ((m ≡ bad_signature) × BadConstant [] ws p)
  -- two fillings exchange; what the count of free variables tells
  pub exchange : (k : ℕ) (a b t : Term) → fill_at k a (fill_at (suc k) b t) ≡ fill_at k b (fill_at k (raise 1 a) t)
  pub counts : FreeLaws

-- with the constants Σ of a signature
pub record Metatheory (Σ : List Term) : Type 0 where
  -- the check gives a type exactly if a measured derivation does, and is refused exactly by the fault that is met first
  pub infers : {Γ : List Term} {t A : Term} (at : ℕ) → Context Σ Γ → (infer Σ Γ at t ≡ ok A) ↔ HasMeasured Σ Γ t A
  pub faults : (t : Term) {Γ : List Term} {m p : ℕ} (at : ℕ) → Context Σ Γ → Plain t →
      (infer Σ Γ at t ≡ refused m p) ↔ ((i : ℕ) × Faults Σ Γ t m i × (p ≡ at + i))
  -- a term that has a derivation is refused by 12 alone
  pub derivable : {Γ : List Term} {t A : Term} {m i : ℕ} → Has Σ Γ t A → Faults Σ Γ t m i → m ≡ type_too_long
  -- the place of a refusal is that of a node, of any term
  pub places : (t : Term) (Γ : List Term) (at : ℕ) {m p : ℕ} → infer Σ Γ at t ≡ refused m p → Fault at t p
  -- tests 6 to 12 pass exactly for words of a term that passes, and refuse exactly by a row of the relation; as a
  -- statement's proposition too
  pub term_passes : (ws : List ℕ) (t A : Term) → (check_term Σ ws ≡ ok (record { term = t; type = A })) ↔ Passes Σ ws t A
  pub term_refused : (ws : List ℕ) (m p : ℕ) → (check_term Σ ws ≡ refused m p) ↔ TermRefused Σ ws m p
  pub statement_passes : (ws : List ℕ) (a : ℕ) (q : Term) → (check_statement Σ a ws ≡ ok q) ↔ Stated Σ a ws q
  pub statement_refused : (a : ℕ) (ws : List ℕ) (m p : ℕ) → (check_statement Σ a ws ≡ refused m p) ↔ StatementRefused Σ a ws m p
  -- every derived type is KindP, KindT, or has a sort itself; whether it is a proposition is seen by looking at it
  pub regular : {Γ : List Term} {t A : Term} → Context Σ Γ → Has Σ Γ t A → (A ≡ KindP) ⊎ ((A ≡ KindT) ⊎ ((s : Term) × Has Σ Γ A s × Sort s))
  pub propositions : {Γ : List Term} {t A : Term} → Context Σ Γ → Has Σ Γ t A → Has Σ Γ A P ↔ (proposition A ≡ true)
  -- a binder more, also behind others; a binder filled; and an unused binder less
  pub weaken : {t A : Term} (Θ Γ : List Term) (d : Term) → Has Σ (Θ ++ Γ) t A →
      Has Σ (entries (λ k. shift k (pos 1)) Θ ++ (d ∷ Γ)) (shift (length Θ) (pos 1) t) (shift (length Θ) (pos 1) A)
  pub substitute : {Γ : List Term} {t A e d : Term} → Has Σ (d ∷ Γ) t A → Has Σ Γ e d → Has Σ Γ (fill t e) (fill A e)
  pub strengthen : {Γ : List Term} {t A d : Term} → Has Σ (d ∷ Γ) t A → occurs 0 t ≡ 0 → (occurs 0 A ≡ 0) × Has Σ Γ (lower t) (lower A)
  -- a step of reduction keeps the type, and so do constants added to the signature
  pub reduces : {Γ : List Term} {t u A : Term} → Reduces t u → Has Σ Γ t A → Has Σ Γ u A
  pub monotone : (Σ' : List Term) {Γ : List Term} {t A : Term} → Has Σ Γ t A → Has (Σ ++ Σ') Γ t A
