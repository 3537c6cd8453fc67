-- What the code of a Bind's type is asked.
use Rattle.std.specs.Prelude.{ℕ, ◌+◌, ◌≤◌, ◌≡◌, List, ◌∷◌, ◌++◌, length}
use Rattle.logic.specs.Limits.{most_type_words}
use Rattle.logic.specs.Term.{saysO, Term, op_word, encode, size}
use Rattle.logic.specs.Move.{raise}
use Rattle.logic.specs.Reading.{Plain}
use Rattle.words.specs.Typed.{TypeAt}
use Rattle.rules.specs.Scope.{tail, entry_head}
use Rattle.rules.specs.Form.{front_words}

-- a Bind's body has the type B, at the front of the workspace; the type Says p q of
-- its proof is kept at the end, with p raised
pub record Binds (ws : List ℕ) (used m : ℕ) (p q B : Term) : Type 0 where
  pub rest : List ℕ
  pub kept : tail used ws ≡ (entry_head + (1 + size p + size q)) ∷ 0 ∷ size q ∷ ((op_word saysO ∷ (encode (raise 1 p) ++ encode q)) ++ rest)
  pub principal : Plain (raise 1 p)
  pub type : TypeAt ws 0 B
  pub type_words : m ≡ size B

pub record Bindable (ws : List ℕ) (used m : ℕ) : Type 0 where
  pub p : Term
  pub q : Term
  pub B : Term
  pub binds : Binds ws used m p q B
  pub small : m ≤ most_type_words
  pub small_kept : 1 + size p + size q ≤ most_type_words
  pub room : used + front_words ≤ length ws
