-- When an extract is granted and when and where it is refused, said by relations and not by the tests: what the first
-- and the second demand say of it.
use Rattle.std.specs.Prelude.{ℕ, ◌*◌, ◌≡◌, ◌↔◌, List, length}
use Rattle.logic.specs.Refusals.{out_of_form}
use Rattle.logic.specs.Result.{number_of, Answers, without_value}
use Rattle.register.specs.Records.{Ask}
use Rattle.register.specs.Calls.{Lent, request_call, after_request}
use Rattle.register.specs.Succeeds.{Grantable}
use Rattle.register.specs.Refuses.{RequestRefused}
use Rattle.register.specs.Unread.{SameFront}
use Rattle.words.specs.Place.{after_write}
use Rattle.homes.specs.Right.{InForm, Right}
use Rattle.extract.specs.Extract.{extract_call}

module _ (l : Lent) (reg : List ℕ) (k : Ask) (hs t : List ℕ) (room : ℕ) where
  -- 21 comes first, and then what refuses the request
  pub data ExtractRefused : (number place : ℕ) → Type 0 where
    extract_21 : (InForm hs t room → ⊥) → ExtractRefused out_of_form 0
    extract_request : {m place : ℕ} → InForm hs t room → RequestRefused l reg k m place → ExtractRefused m place

  -- it is in form and its request is granted; the words are a right output of two words a home
  pub record Extractable (xs : List ℕ) : Type 0 where
    pub form : InForm hs t room
    pub request : Grantable l reg k
    pub count : length xs ≡ 2 * length hs
    pub right : Right hs t xs xs

  -- what the two demands say of an extract
  pub record ExtractDemands : Type 0 where
    -- it is granted exactly so and refused exactly so, and answers one thing
    pub answers : Answers (extract_call l reg k hs t room) Extractable ExtractRefused
    -- 21 exactly if the form is broken, else what its request answers
    pub form_first : (number_of (extract_call l reg k hs t room) ≡ out_of_form) ↔ (InForm hs t room → ⊥)
    pub then_request : InForm hs t room → without_value (extract_call l reg k hs t room) ≡ request_call l reg k
    -- in form, it leaves the register that its request leaves, and where it is refused the one that it was lent
    pub as_request : InForm hs t room →
        after_request (without_value (extract_call l reg k hs t room)) reg k ≡ after_request (request_call l reg k) reg k
    pub register_kept : {m place : ℕ} → ExtractRefused m place → after_request (without_value (extract_call l reg k hs t room)) reg k ≡ reg
    -- granted, the output is right, and "A refused request writes nothing"
    pub output_right : {xs : List ℕ} (old : List ℕ) → length old ≡ room → Extractable xs →
        Right hs t old (after_write (extract_call l reg k hs t room) old)
    pub output_kept : {m place : ℕ} (old : List ℕ) → ExtractRefused m place → after_write (extract_call l reg k hs t room) old ≡ old
    -- words past the used count are unread
    pub unread : {reg' : List ℕ} → SameFront reg reg' → extract_call l reg k hs t room ≡ extract_call l reg' k hs t room
