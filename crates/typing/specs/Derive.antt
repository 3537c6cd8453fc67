-- What the derivation of a term's type is asked and what it ensures.
use Rattle.std.specs.Prelude.{ℕ, ◌+◌, ◌*◌, ◌≤◌, ◌≡◌, List, length}
use Rattle.logic.specs.Limits.{most_words, most_nesting}
use Rattle.logic.specs.Result.{Result}
use Rattle.logic.specs.Term.{Term}
use Rattle.logic.specs.Reading.{depth}
use Rattle.logic.specs.Scope.{Signature, Context}
use Rattle.words.specs.Place.{At}
use Rattle.rules.specs.Scope.{tail, scope_words, Binders, Declared}
use Rattle.rules.specs.Form.{type_and_end, Front, front_words, level_words}
use Rattle.std.specs.Prelude.{Result as Answer}
use Rattle.logic.specs.Answer.{answer as told}
use Rattle.logic.specs.declared.refusal.Refusal.{Refusal}
use Rattle.rules.specs.declared.typed.Typed.{Typed}

-- a type is at the front, and the words kept at the end are as they were
pub record Derived (o : Result Term) (end used : ℕ) (old new : List ℕ) (r : Answer Typed Refusal) : Type 0 where
  pub answer : told r ≡ type_and_end o end
  pub front : Front o new
  pub kept : tail used new ≡ tail used old

-- a term t stands at a place of the proof, under the binders Γ and the constants Σ
pub record SubjectAt (sig table proof ws : List ℕ) (floor used at left : ℕ) (Σ Γ : List Term) (t : Term) : Type 0 where
  pub declared : Declared sig table Σ
  pub signature : Signature Σ
  pub binders : Binders proof (scope_words floor used ws) Γ
  pub context : Context Σ Γ
  pub here : At proof at t
  pub deep : depth t ≤ left
  pub few : length Γ + left ≤ most_nesting

-- some term does, and the workspace suffices for it
pub record Derivable (sig table proof ws : List ℕ) (floor used at left : ℕ) : Type 0 where
  pub Σ : List Term
  pub Γ : List Term
  pub term : Term
  pub ready : SubjectAt sig table proof ws floor used at left Σ Γ term
  pub short : length proof ≤ most_words
  pub below : floor ≤ used
  pub room : used + left * level_words + front_words ≤ length ws
