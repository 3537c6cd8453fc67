-- What holds of steps and of simplified terms: the laws of request 9.
use Rattle.std.specs.Prelude.{ℕ, ◌+◌, ◌≡◌, ◌⊎◌, ◌↔◌, List}
use Rattle.std.proofs.Math.Option.{some, none}
use Rattle.logic.specs.Limits.{most_words, most_nesting}
use Rattle.logic.specs.Refusals.{type_too_long, register_full}
use Rattle.logic.specs.Result.{ok, refused}
use Rattle.logic.specs.Term.{Term, encode}
use Rattle.logic.specs.Typing.{Has}
use Rattle.logic.specs.Scope.{Signature}
use Rattle.logic.specs.Reading.{Embedded, SubtermAt}
use Rattle.logic.specs.Check.{WordsOf, Passes}
use Rattle.logic.specs.Reduce.{Reduces}
use Rattle.register.specs.Records.{Ask, ask_of}
use Rattle.register.specs.Calls.{Lent, check_call, request_call}
use Rattle.reduction.specs.Steps.{next_step, step_place, FirstStep, Irreducible, Position, Settled}
use Rattle.reduction.specs.Simplify.{Simplified, simplify, FirstSteps, Finished, Ended}
use Rattle.reduction.specs.Call.{simplify_call}

-- the same request with another proof
abbrev pub with_proof : Ask → Term → Ask
with_proof k t = ask_of k.operation k.extract k.delivery k.day (encode t)

pub record SimplifyLaws : Type 0 where
  -- the search finds the first step in word order and nothing else, and none exactly if none applies
  pub finds_first : (t u : Term) → (next_step t ≡ some u) ↔ FirstStep t u
  pub finds_none : (t : Term) → (next_step t ≡ none) ↔ Irreducible t
  -- the first step gives one term: where two rules fit at its place they give the same
  pub one_first : {t u v : Term} → FirstStep t u → FirstStep t v → u ≡ v
  -- no step applies exactly if no rule fits at the positions named, which are word indices as the check counts them
  pub settles : (t : Term) → Irreducible t ↔ Settled t
  pub stands : {i : ℕ} {s t : Term} → Position s i t → (d : ℕ) × SubtermAt s i d t
  -- a rule that fits at such a position is a step of the whole, at its place
  pub stepped_at : {i : ℕ} {s t v : Term} → Position s i t → (p : Reduces s v) → (u : Term) × (q : Reduces t u) × (step_place q ≡ i + step_place p)
  -- a result is given exactly where the steps end within the budget and the limits, with their count, and the work is
  -- refused exactly where it ends before
  pub gives : (k : ℕ) (t : Term) (r : Simplified) → (simplify k t ≡ ok r) ↔ Finished k t r
  pub refuses : (k : ℕ) (t : Term) (m p : ℕ) → (simplify k t ≡ refused m p) ↔ Ended k t m p
  -- "Every result derives the same type as the term checked, with limits 6, 8 and 12 left aside for the derivation"
  pub same_type : {n : ℕ} {Σ Γ : List Term} {t u A : Term} → Signature Σ → FirstSteps n t u → Has Σ Γ t A → Has Σ Γ u A
  -- the Signs of a result are among those of the term
  pub signs : {n m : ℕ} {q t u : Term} → FirstSteps n t u → Embedded m q u → Embedded m q t
  -- its words pass tests 6 to 8
  pub well_formed : {n : ℕ} {Σ : List Term} {ws : List ℕ} {t u A : Term} → Signature Σ → FirstSteps n t u → Passes Σ ws t A →
      WordsOf most_words most_nesting (encode u) u
  -- the result's words check on the day with the type of the term, or a type in their derivation is too long
  pub checks : (l : Lent) (reg : List ℕ) (day : ℕ) (ws : List ℕ) (budget room : ℕ) (A : Term) (r : Simplified) →
      check_call l reg day ws ≡ ok A → simplify_call l reg day ws budget room ≡ ok r →
      let answer = check_call l reg day (encode r.result) in
      (answer ≡ ok A) ⊎ ((p : ℕ) × (answer ≡ refused type_too_long p))
  -- a request that is granted is granted with the result for its proof, or a type in it is too long, or the register is full
  pub grants : (l : Lent) (reg : List ℕ) (k : Ask) (budget room : ℕ) (r : Simplified) →
      request_call l reg k ≡ ok tt → simplify_call l reg k.day k.proof budget room ≡ ok r →
      let answer = request_call l reg (with_proof k r.result) in
      (answer ≡ ok tt) ⊎ (((p : ℕ) × (answer ≡ refused type_too_long p)) ⊎ (answer ≡ refused register_full 0))
