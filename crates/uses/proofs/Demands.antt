-- `uses` answers by the relations, and its refusals have places within the term's words or just behind them.
use Prim.Native.Nat.{ℕ, ◌≤◌}
use mathlib.Core.Path.{◌≡◌, refl, sym, ap, ◌∙◌}
use mathlib.Core.Logic.{◌↔◌}
use mathlib.Core.List.{List}
use native.Mathlib.Omega.{arith}
use lib.ListN.{length}
use Rattle.logic.specs.Limits.{most_words, most_nesting}
use Rattle.logic.specs.Result.{ok, refused}
use Rattle.logic.specs.Term.{Term}
use Rattle.logic.specs.Move.{free_from}
use Rattle.logic.specs.Check.{term_of, WordsOf}
use Rattle.logic.specs.Refused.{row_6, row_7, row_8, row_met}
use Rattle.logic.proofs.Check.{term_of_right}
use Rattle.logic.proofs.Refused.{words_refused}
use Rattle.logic.proofs.Results.{ok_inj, bound, bind_is}
use Rattle.logic.proofs.Searches.{stands_within}
use Rattle.logic.proofs.Stopped.{not_refused, one_answer}
use Rattle.logic.proofs.FreeVariables.{free_occurs}
use Rattle.logic.proofs.Words.{encode_size}
use Rattle.uses.specs.Uses.{uses_call}
use Rattle.uses.specs.Demands.{FreeIn, UsesRefused, UsesDemand}

module _ (k : ℕ) (ws : List ℕ) where
  uses_of : (t : Term) → WordsOf most_words most_nesting ws t → uses_call k ws ≡ ok (free_from k t)
  uses_of t w = bind_is (λ t. ok (free_from k t)) ((term_of_right most_words most_nesting ws t).1 w) refl

  uses_right : (n : ℕ) → (uses_call k ws ≡ ok n) ↔ FreeIn k ws n
  uses_right n = (
    (λ e. bound (term_of most_words most_nesting ws) _ e λ t i j.
        record { term = t; words = (term_of_right most_words most_nesting ws t).0 i; count = sym (ok_inj j) }),
    λ a. uses_of a.term a.words ∙ ap ok (sym a.count),
  )

  uses_refused : (m p : ℕ) → (uses_call k ws ≡ refused m p) ↔ UsesRefused ws m p
  uses_refused m p = words_refused most_words most_nesting (λ t number place. ⊥) ws _ (λ t plain m p. (not_refused, λ x. absurd x)) m p

  pub uses_bound : (m p : ℕ) → uses_call k ws ≡ refused m p → (6 ≤ m) × (m ≤ 8) × (p ≤ length ws)
  uses_bound m p e = go ((uses_refused m p).0 e)
    where
      go : {m p : ℕ} → UsesRefused ws m p → (6 ≤ m) × (m ≤ 8) × (p ≤ length ws)
      go (row_6 l) = (omega arith, omega arith, omega arith)
      go (row_7 l M) = (omega arith, omega arith, M.within)
      go (row_8 l D) =
          let (i, d) = stands_within D.first.deep in (omega arith, omega arith, omega (arith, D.first.place, encode_size D.t, ap length D.words))
      go (row_met w f) = absurd f

pub uses_demand : UsesDemand
uses_demand = record {
  answers = λ k ws. one_answer (uses_call k ws) (uses_right k ws) (uses_refused k ws);
  differ = λ ws b m n w e f.
      let i : m ≡ free_from 0 b = ok_inj (sym e ∙ uses_of 0 ws b w) in
      let j : n ≡ free_from 1 b = ok_inj (sym f ∙ uses_of 1 ws b w) in
      let u = free_occurs 0 b in
      omega arith;
}
