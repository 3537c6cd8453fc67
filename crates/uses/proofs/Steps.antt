-- What each step of `uses` answers.
use Prim.Native.Nat.{ℕ, ◌≤◌}
use mathlib.Core.Path.{◌≡◌, sym, ap, ◌∙◌}
use mathlib.Core.List.{List}
use lib.IntN.{ℤ}
use lib.ListN.{length}
use Rattle.logic.specs.Limits.{payloads, most_words, most_nesting}
use Rattle.logic.specs.Result.{Result, ok, refused, without_value}
use Rattle.logic.specs.Term.{Term}
use Rattle.logic.specs.Move.{free_from}
use Rattle.logic.specs.Check.{term_of}
use Rattle.logic.proofs.Check.{term_of_right}
use Rattle.logic.proofs.Results.{bind_is, followed}
use Rattle.logic.proofs.Stopped.{stop, stopped_then, not_refused}
use Rattle.logic.proofs.FreeVariables.{free_past}
use Rattle.words.specs.Place.{Is}
use Rattle.moves.specs.Shift.{Shifted}
use Rattle.moves.specs.declared.shift.Shift.{Shift}
use Rattle.uses.specs.Uses.{uses_call}

-- the term that passed the tests
pub record Tested (ws : List ℕ) : Type 0 where
  pub term : Term
  pub read : term_of most_words most_nesting ws ≡ ok term
  pub is : Is ws term
  pub short : length ws ≤ most_words

module _ (k : ℕ) (ws : List ℕ) (r : Result (Unit {0})) (told : r ≡ without_value (term_of most_words most_nesting ws)) where
  pub term_refused : (m p : ℕ) → r ≡ refused m p → refused m p ≡ uses_call k ws
  term_refused m p e = sym (stop (λ t. ok (free_from k t)) (stopped_then (term_of most_words most_nesting ws) (ok tt) (sym told ∙ e) (λ i. i)
      (λ t i j. absurd (not_refused j))))

  pub term_passed : r ≡ ok tt → Tested ws
  term_passed e = followed (term_of most_words most_nesting ws) (ok tt) (sym told ∙ e) λ t i j.
      let w = (term_of_right most_words most_nesting ws t).0 i in
      record { term = t; read = i; is = record { plain = w.plain; words = w.words }; short = w.not_more }

module _ (k : ℕ) (ws : List ℕ) (T : Tested ws) where
  -- no variable is numbered so high
  pub counts_none : payloads ≤ k → ok 0 ≡ uses_call k ws
  counts_none l = sym (bind_is _ T.read (ap ok (free_past k T.term l T.is.plain)))

  -- the shift counts
  pub counts_free : {z : ℤ} {old new : List ℕ} {to : ℕ} (r : Shift) → ((t : Term) → Is ws t → Shifted t k z old to new r) → ok r.free ≡ uses_call k ws
  counts_free r f = sym (bind_is _ T.read (ap ok (sym (f T.term T.is).free_is)))
