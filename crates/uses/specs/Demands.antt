-- What `uses` answers, said by relations and not by the tests: the first two demands of it, and that it tells whether a
-- binder is used.
use Rattle.std.specs.Prelude.{ℕ, ◌+◌, ◌≡◌, List}
use Rattle.logic.specs.Limits.{most_words, most_nesting}
use Rattle.logic.specs.Result.{ok, Answers}
use Rattle.logic.specs.Term.{Term}
use Rattle.logic.specs.Move.{free_from, occurs}
use Rattle.logic.specs.Check.{WordsOf}
use Rattle.logic.specs.Refused.{WordsRefused}
use Rattle.uses.specs.Uses.{uses_call}

-- ws are a term's words, in which n variables stand free that are numbered k or more
pub record FreeIn (k : ℕ) (ws : List ℕ) (n : ℕ) : Type 0 where
  pub term : Term
  pub words : WordsOf most_words most_nesting ws term
  pub count : n ≡ free_from k term

-- tests 6 to 8 refuse, and no other
abbrev pub UsesRefused : List ℕ → (number place : ℕ) → Type 0
UsesRefused ws m p = WordsRefused most_words most_nesting (λ t number place. ⊥) ws m p

pub record UsesDemand : Type 0 where
  pub answers : (k : ℕ) (ws : List ℕ) → Answers (uses_call k ws) (FreeIn k ws) (UsesRefused ws)
  -- "Counted from a body's variable 0 on and from 1 on, the two differ by the uses of its binder"
  pub differ : (ws : List ℕ) (b : Term) (m n : ℕ) → WordsOf most_words most_nesting ws b → uses_call 0 ws ≡ ok m → uses_call 1 ws ≡ ok n →
      m ≡ n + occurs 0 b
