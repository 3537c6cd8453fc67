-- What an extract answers and leaves, by its form and its request.
use Prim.Native.Nat.{ℕ}
use mathlib.Core.Path.{◌≡◌, refl, sym, ap, ◌∙◌}
use mathlib.Core.Bool.{Bool, true, false}
use mathlib.Core.List.{List}
use lib.ListN.{length}
use Rattle.logic.specs.Refusals.{out_of_form}
use Rattle.logic.specs.Result.{Result, ok, refused, ◌>>◌, require, without_value}
use Rattle.register.specs.Records.{Ask}
use Rattle.register.specs.Calls.{Lent, request_call, after_request}
use Rattle.logic.specs.Answer.{answer}
use Rattle.logic.specs.declared.refusal.Refusal.{Refusal}
use Rattle.std.specs.Prelude.{Result as Answer}
use Rattle.words.specs.Place.{after_write}
use Rattle.homes.specs.Homes.{formed, joined}
use Rattle.extract.specs.Extract.{extract_call, ExtractedAs}

-- a value put behind an answer, and taken away again
same_answer : (o : Result (Unit {0})) (xs : List ℕ) → without_value (o >> ok xs) ≡ o
same_answer (ok x) xs = refl
same_answer (refused m p) xs = refl

module _ (l : Lent) (reg : List ℕ) (k : Ask) (hs t : List ℕ) (room : ℕ) where
  abbrev by_form : Bool → Result (List ℕ)
  by_form b = require b out_of_form 0 >> (request_call l reg k >> ok (joined hs t))

  pub broken_form : formed hs t room ≡ false → extract_call l reg k hs t room ≡ refused out_of_form 0
  unfolding extract_call
  broken_form e = ap by_form e

  pub right_form : formed hs t room ≡ true → extract_call l reg k hs t room ≡ (request_call l reg k >> ok (joined hs t))
  unfolding extract_call
  right_form e = ap by_form e

  -- in form, it answers what its request answers
  pub request_answer : formed hs t room ≡ true → without_value (extract_call l reg k hs t room) ≡ request_call l reg k
  request_answer e = ap without_value (right_form e) ∙ same_answer (request_call l reg k) (joined hs t)

  -- behind the form, by what its request answers
  pub then_requested : {o : Result (Unit {0})} → formed hs t room ≡ true → request_call l reg k ≡ o → extract_call l reg k hs t room ≡ (o >> ok (joined hs t))
  then_requested e q = right_form e ∙ ap (λ o. o >> ok (joined hs t)) q

-- what the code leaves, where its outcome is known
pub left_by : {l : Lent} {reg : List ℕ} {k : Ask} {hs t old new out : List ℕ} {r : Answer (Unit {0}) Refusal} (o : Result (List ℕ)) →
    extract_call l reg k hs t (length old) ≡ o → answer r ≡ without_value o → new ≡ after_request (without_value o) reg k →
    out ≡ after_write o old → ExtractedAs l reg k hs t new old out r
left_by {reg} {k} {old} o e a f w = record {
  answer = a ∙ sym (ap without_value e);
  register = f ∙ sym (ap (λ o. after_request (without_value o) reg k) e);
  output = w ∙ sym (ap (λ o. after_write o old) e);
}
