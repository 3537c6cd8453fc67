-- What a rule's result is: the answer's numbers, and a type at the front of the workspace.
use Rattle.std.specs.Prelude.{ℕ, ◌+◌, ◌≡◌, List, drop}
use Rattle.logic.specs.Limits.{most_type_words}
use Rattle.logic.specs.Result.{Result, ok, refused, ◌>>=◌}
use Rattle.logic.specs.Term.{Term, size}
use Rattle.words.specs.Typed.{TypeAt}
use Rattle.std.specs.Prelude.{Result as Answer}
use Rattle.logic.specs.Answer.{answer as told}
use Rattle.logic.specs.declared.refusal.Refusal.{Refusal}
use Rattle.rules.specs.declared.typed.Typed.{Typed}

-- the words of the type that came out, of a term that ends at `end`
abbrev pub type_and_end : Result Term → ℕ → Result Typed
type_and_end o end = o >>= λ A. ok (record { words = size A; end = end })

-- the type that came out stands at the front of the workspace
abbrev pub Front : Result Term → List ℕ → Type 0
Front (ok A) ws = TypeAt ws 0 A
Front (refused m p) ws = Unit {0}

-- what a rule may write at the front of the workspace
abbrev pub front_words : ℕ
front_words = most_type_words + most_type_words

-- a type is at the front, and only the front was written
pub record TypeFormed (o : Result Term) (end : ℕ) (old new : List ℕ) (r : Answer Typed Refusal) : Type 0 where
  pub answer : told r ≡ type_and_end o end
  pub front : Front o new
  pub rest : drop front_words new ≡ drop front_words old

-- what a level of nesting may keep: a type, and the words before it in an entry
abbrev pub level_words : ℕ
level_words = most_type_words + 3
