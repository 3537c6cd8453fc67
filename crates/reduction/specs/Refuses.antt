-- When a term is simplified and when and where the call is refused, said by relations and not by the tests: what the
-- first and the second demand say of it. A constructor is a test in its order: those before it passed, and this one
-- fails.
use Rattle.std.specs.Prelude.{ℕ, ◌≤◌, ◌<◌, ◌≡◌, List, length, take, drop}
use Rattle.logic.specs.Refusals.{output_short}
use Rattle.logic.specs.Result.{Answers}
use Rattle.logic.specs.Term.{Term, size, encode}
use Rattle.register.specs.Calls.{Lent}
use Rattle.register.specs.Succeeds.{Checkable}
use Rattle.register.specs.Refuses.{CheckRefused}
use Rattle.register.specs.Unread.{SameFront}
use Rattle.reduction.specs.Simplify.{Simplified, Finished, Ended}
use Rattle.reduction.specs.Call.{simplify_call, after_simplify}

module _ (l : Lent) (reg : List ℕ) (day : ℕ) (ws : List ℕ) (budget room : ℕ) where
  pub data SimplifyRefused : (number place : ℕ) → Type 0 where
    -- "Check's tests come first"
    simplify_check : {m p : ℕ} → CheckRefused l reg day ws m p → SimplifyRefused m p
    -- 6, 8 and 26
    simplify_ended : {A : Term} {m p : ℕ} (h : Checkable l reg day ws A) → Ended budget h.t m p → SimplifyRefused m p
    -- "after that an output shorter than the result is 25"
    simplify_25 : {A : Term} {r : Simplified} (h : Checkable l reg day ws A) → Finished budget h.t r → room < size r.result →
        SimplifyRefused output_short 0

  -- the words check, the steps end within the budget and the limits, and the result has room
  pub record Simplifiable (r : Simplified) : Type 0 where
    pub type : Term
    pub checked : Checkable l reg day ws type
    pub finished : Finished budget checked.t r
    pub fits : size r.result ≤ room

-- the first two demands of the call
pub record SimplifyDemands : Type 0 where
  pub answers : (l : Lent) (reg : List ℕ) (day : ℕ) (ws : List ℕ) (budget room : ℕ) →
      Answers (simplify_call l reg day ws budget room) (Simplifiable l reg day ws budget room) (SimplifyRefused l reg day ws budget room)
  -- a refusal writes nothing
  pub unchanged : {l : Lent} {reg : List ℕ} {day : ℕ} {ws : List ℕ} {budget room m p : ℕ} (old : List ℕ) →
      SimplifyRefused l reg day ws budget room m p → after_simplify (simplify_call l reg day ws budget room) old ≡ old
  -- the result's words are written, and output past the result is unchanged
  pub written : {l : Lent} {reg : List ℕ} {day : ℕ} {ws : List ℕ} {budget : ℕ} {r : Simplified} (old : List ℕ) →
      Simplifiable l reg day ws budget (length old) r →
      let new = after_simplify (simplify_call l reg day ws budget (length old)) old in
      (take (size r.result) new ≡ encode r.result) × (drop (size r.result) new ≡ drop (size r.result) old)
  -- words of the register past the used count are unread
  pub unread : {reg reg' : List ℕ} (l : Lent) (day : ℕ) (ws : List ℕ) (budget room : ℕ) → SameFront reg reg' →
      simplify_call l reg day ws budget room ≡ simplify_call l reg' day ws budget room
