-- What the code of tests 6 to 12 is asked and what it ensures.
use Rattle.std.specs.Prelude.{ℕ, ◌≤◌, ◌≡◌, List, [], length}
use Rattle.logic.specs.Limits.{least_workspace, most_words, most_nesting}
use Rattle.logic.specs.Result.{Result, ◌>>=◌}
use Rattle.logic.specs.Term.{Term}
use Rattle.logic.specs.Scope.{Signature}
use Rattle.logic.specs.Infer.{infer}
use Rattle.logic.specs.Check.{term_of}
use Rattle.rules.specs.Scope.{Declared}
use Rattle.rules.specs.Form.{type_and_end, Front}
use Rattle.std.specs.Prelude.{Result as Answer}
use Rattle.logic.specs.Answer.{answer as told}
use Rattle.logic.specs.declared.refusal.Refusal.{Refusal}
use Rattle.rules.specs.declared.typed.Typed.{Typed}

-- the constants' types, by the table, are those of a signature
pub record ConstantsOf (sig table : List ℕ) (Σ : List Term) : Type 0 where
  pub declared : Declared sig table Σ
  pub signature : Signature Σ

-- there are such constants, the workspace is not short, and the limits are at most those of a term
pub record Testable (sig table ws : List ℕ) (most deep : ℕ) : Type 0 where
  pub Σ : List Term
  pub constants : ConstantsOf sig table Σ
  pub workspace : least_workspace ≤ length ws
  pub words : most ≤ most_words
  pub nesting : deep ≤ most_nesting

-- tests 6 to 12 of a term of at most `most` words, nested at most `deep`: its type
abbrev pub typed_term : List Term → (most deep : ℕ) → List ℕ → Result Term
typed_term Σ most deep ws = term_of most deep ws >>= λ t. infer Σ [] 0 t

-- the answer, and the type at the front of the workspace
pub record Judged (o : Result Term) (end : ℕ) (new : List ℕ) (r : Answer Typed Refusal) : Type 0 where
  pub answer : told r ≡ type_and_end o end
  pub front : Front o new
