-- Document 02, slip 2: "A function that has no Pi type, an argument of another type and a variable that escapes a Bind
-- become separate refusals. All other broken conditions keep 11, and places don't change." What the three numbers stand
-- for; proofs/SeparateRefusals proves it of every term, and the examples together.
use Rattle.std.specs.Prelude.{ℕ, suc, ◌+◌, ◌≤◌, ◌≡◌, ◌⊎◌, ◌↔◌, ◌≢◌, List, [], ◌∷◌}
use Rattle.logic.specs.Result.{ok, refused}
use Rattle.logic.specs.Term.{Op, Term, var, sign, node, P, S, Const, Text, Name, Says, Pi, Lam, App, Ret, Bind, size, encode}
use Rattle.logic.specs.Move.{raise, occurs}
use Rattle.logic.specs.Typing.{Has}
use Rattle.logic.specs.Scope.{Context}
use Rattle.logic.specs.Faults.{HasMeasured}
use Rattle.logic.specs.Infer.{infer}
use Rattle.logic.specs.Reading.{Plain}
use Rattle.logic.specs.SignatureList.{signature}
use Rattle.logic.specs.Worked.{listed, consent, checked_words}
use Rattle.logic.specs.Order.{answer_to}
use Rattle.logic.specs.Sentences.{of_consent}

-- Separate Σ Γ t m: the term t, in the scope Γ, breaks the condition with the number m
pub data Separate (Σ Γ : List Term) : Term → ℕ → Type 0 where
  -- an App whose function has a type that is no Pi, whatever its argument is
  separate_function : {f e F : Term} → HasMeasured Σ Γ f F → ((d B : Term) → F ≢ Pi d B) → Separate Σ Γ (App f e) 18
  -- an App whose argument has another type than the domain
  separate_argument : {f e d B E : Term} → HasMeasured Σ Γ f (Pi d B) → HasMeasured Σ Γ e E → E ≢ d → Separate Σ Γ (App f e) 19
  -- a Bind whose body the right principal says, with variable 0 in what it says
  separate_escape : {e b a q r : Term} → HasMeasured Σ Γ e (Says a q) → HasMeasured Σ (q ∷ Γ) b (Says (raise 1 a) r) → occurs 0 r ≢ 0
      → Separate Σ Γ (Bind e b) 20

-- Subterm Σ Γ t i Δ s: in the term t, of the scope Γ, the term s begins at the word index i, and Δ is its scope
pub data Subterm (Σ : List Term) : List Term → Term → ℕ → List Term → Term → Type 0 where
  itself : {Γ : List Term} {t : Term} → Subterm Σ Γ t 0 Γ t
  under_sign : {Γ Δ : List Term} {n i : ℕ} {q s : Term} → Subterm Σ [] q i Δ s → Subterm Σ Γ (sign n q) (suc i) Δ s
  under_first : {Γ Δ : List Term} {o : Op} {i : ℕ} {a b s : Term} → Subterm Σ Γ a i Δ s → Subterm Σ Γ (node o a b) (suc i) Δ s
  under_says : {Γ Δ : List Term} {i : ℕ} {a q s : Term} → Subterm Σ Γ q i Δ s → Subterm Σ Γ (Says a q) (suc (size a + i)) Δ s
  under_pi : {Γ Δ : List Term} {i : ℕ} {d b s : Term} → Subterm Σ (d ∷ Γ) b i Δ s → Subterm Σ Γ (Pi d b) (suc (size d + i)) Δ s
  under_lam : {Γ Δ : List Term} {i : ℕ} {d b s : Term} → Subterm Σ (d ∷ Γ) b i Δ s → Subterm Σ Γ (Lam d b) (suc (size d + i)) Δ s
  under_app : {Γ Δ : List Term} {i : ℕ} {f e s : Term} → Subterm Σ Γ e i Δ s → Subterm Σ Γ (App f e) (suc (size f + i)) Δ s
  under_ret : {Γ Δ : List Term} {i : ℕ} {a e s : Term} → Subterm Σ Γ e i Δ s → Subterm Σ Γ (Ret a e) (suc (size a + i)) Δ s
  -- "under a binder of type Q"
  under_bind : {Γ Δ : List Term} {i : ℕ} {e b a q s : Term} → Has Σ Γ e (Says a q) → Subterm Σ (q ∷ Γ) b i Δ s → Subterm Σ Γ (Bind e b) (suc (size e + i)) Δ s

-- such a term stands at the place p of a term that begins at `at`
pub record SeparateAt (Σ Γ : List Term) (at : ℕ) (t : Term) (m p : ℕ) : Type 0 where
  pub index : ℕ
  pub place : p ≡ at + index
  pub scope : List Term
  pub which : Term
  pub stands : Subterm Σ Γ t index scope which
  pub broken : Separate Σ scope which m

pub record SeparateRefusals (Σ : List Term) : Type 0 where
  -- what the check accepts, and with which type, is what the rules say, as before
  pub accepts : {Γ : List Term} {t A : Term} (at : ℕ) → Context Σ Γ → (infer Σ Γ at t ≡ ok A) ↔ HasMeasured Σ Γ t A
  -- a number above 12 is one of the three, and such a term stands at its place
  pub stands : {Γ : List Term} {m p : ℕ} (t : Term) (at : ℕ) → Context Σ Γ → Plain t → infer Σ Γ at t ≡ refused m p → (m ≤ 12) ⊎ SeparateAt Σ Γ at t m p
  -- each such term is refused so
  pub refuses : {Γ : List Term} {t : Term} {m : ℕ} (at : ℕ) → Context Σ Γ → Separate Σ Γ t m → infer Σ Γ at t ≡ refused m at
  -- a Bind of no Says stays 11, and "a Bind whose body another principal says
  -- stays 11, even if its variable escapes too"
  pub not_said : {Γ : List Term} {e E : Term} (b : Term) (at : ℕ) → Context Σ Γ → HasMeasured Σ Γ e E → ((a q : Term) → E ≢ Says a q)
      → infer Σ Γ at (Bind e b) ≡ refused 11 at
  pub by_other : {Γ : List Term} {e b a q B : Term} (at : ℕ) → Context Σ Γ → HasMeasured Σ Γ e (Says a q) → HasMeasured Σ (q ∷ Γ) b B →
      ((r : Term) → B ≢ Says (raise 1 a) r) → infer Σ Γ at (Bind e b) ≡ refused 11 at

-- the variable, a proof of C0, escapes; C1 is a property of such proofs
abbrev pub escaping : Term
escaping = Bind (sign 3 (Const 0)) (Ret (Name 3) (Lam (App (Const 1) (var 0)) (var 0)))

-- the same by literals: places within a term, with document 01's sample signature, and 4 in a signature. More are in
-- Worked (document 01's own), Sentences and Order
pub record SeparateExamples : Type 0 where
  pub function_within : checked_words (Lam S (App (var 0) (var 9))) ≡ refused 18 2
  pub argument_within : checked_words (sign 3 (Says (Name 3) (App (Const 2) (Name 7)))) ≡ refused 19 3
  pub escape_within : checked_words (Lam P (Bind (sign 3 consent) (Ret (Name 3) of_consent))) ≡ refused 20 2
  pub by_other_within : checked_words (Lam P (Bind (sign 3 consent) (Ret (Name 4) of_consent))) ≡ refused 11 2
  -- a constant's type that breaks one is 4, at its length word
  pub function_constant : signature (listed (App (Text 7) (Text 7) ∷ [])) ≡ refused 4 0
  pub argument_constant : signature (listed (Pi S P ∷ App (Const 0) (Name 3) ∷ [])) ≡ refused 4 4
  pub escape : answer_to (P ∷ Pi (Const 0) P ∷ []) (encode escaping) ≡ refused 20 0
  pub escape_constant : signature (listed (P ∷ Pi (Const 0) P ∷ escaping ∷ [])) ≡ refused 4 6
