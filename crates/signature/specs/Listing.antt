-- What the code of the signature list and of its permits and receipts is asked and what it ensures.
use Rattle.std.specs.Prelude.{ℕ, ◌≤◌, ◌<◌, Bool, true, false, ◌&&◌, ◌≡◌, List, [], ◌∷◌, leb, length, take}
use Rattle.logic.specs.Limits.{least_workspace, most_constants, most_constant_words}
use Rattle.logic.specs.Result.{Result, ok, refused, ◌>>=◌}
use Rattle.logic.specs.Term.{Term}
use Rattle.logic.specs.SignatureList.{constant}
use Rattle.rules.specs.Scope.{Declared}
use Rattle.typing.specs.Check.{ConstantsOf}
use Rattle.std.specs.Prelude.{Result as Answer}
use Rattle.logic.specs.Answer.{answer as told}
use Rattle.logic.specs.declared.refusal.Refusal.{Refusal}

-- a signature list was read: the first words of the table say where the constants' types stand
pub record SignatureRead (o : Result (List Term)) (sig table : List ℕ) (r : Answer ℕ Refusal) : Type 0 where
  pub answer : told r ≡ (o >>= λ Σ. ok (length Σ))
  pub constants : (Σ : List Term) → o ≡ ok Σ → ConstantsOf sig (take (length Σ) table) Σ

-- a table for as many constants as there may be, and a workspace that is not short
pub record SignatureReadable (table ws : List ℕ) : Type 0 where
  pub entries : length table ≡ most_constants
  pub workspace : least_workspace ≤ length ws

-- whether tests passed
abbrev pub succeeded : {X : Type 0} → Result X → Bool
succeeded (ok x) = true
succeeded (refused m p) = false

-- behind the constants Σ the list goes on with one more
unfoldable pub constant_at : List Term → List ℕ → Bool
constant_at Σ [] = false
constant_at Σ (n ∷ ws) = leb 1 n && leb n most_constant_words && leb n (length ws) && succeeded (constant Σ (take n ws))

-- there are constants, the workspace is not short, and a word stands at the place `at` of the list
pub record Listable (sig table ws : List ℕ) (at : ℕ) : Type 0 where
  pub Σ : List Term
  pub constants : ConstantsOf sig table Σ
  pub workspace : least_workspace ≤ length ws
  pub inside : at < length sig

-- there are constants whose types stand where the table says
pub record Declares (sig table : List ℕ) : Type 0 where
  pub Σ : List Term
  pub declared : Declared sig table Σ
