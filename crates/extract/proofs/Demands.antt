-- The first two demands for extract, by those for its request and by what the writing step gives.
use Prim.Native.Nat.{ℕ, ◌+◌, ◌≤◌}
use native.Mathlib.Omega.{arith}
use mathlib.Core.Path.{◌≡◌, refl, sym, ap, subst, subst₂, ◌∙◌}
use mathlib.Core.Logic.{◌↔◌}
use mathlib.Core.Bool.{Bool, true, false}
use mathlib.Core.List.{List}
use lib.ListN.{length}
use Rattle.logic.specs.Refusals.{out_of_form, last_refusal}
use Rattle.logic.specs.Result.{Result, ok, refused, number_of, ◌>>◌, require, without_value}
use Rattle.logic.proofs.Results.{ok_inj, not_ok, followed}
use Rattle.logic.proofs.Stopped.{one_answer, not_refused, number_is, place_is, stopped_then, stop_then, not_passed, passed_not}
use Rattle.register.specs.Records.{Ask}
use Rattle.register.specs.Calls.{Lent, request_call, after_request}
use Rattle.register.specs.Unread.{SameFront}
use Rattle.register.proofs.Bounds.{request_bound}
use Rattle.register.proofs.Refuses.{demand1}
use Rattle.register.proofs.Succeeds.{demand2}
use Rattle.register.proofs.Unread.{unread}
use Rattle.words.specs.Place.{after_write}
use Rattle.homes.specs.Homes.{formed, joined}
use Rattle.homes.specs.Right.{InForm, Right}
use Rattle.homes.proofs.InForm.{in_form}
use Rattle.homes.proofs.Outputs.{joined_length, joined_right, right_joined, output_right}
use Rattle.extract.specs.Extract.{extract_call}
use Rattle.extract.specs.Demands.{ExtractRefused, extract_21, extract_request, Extractable, ExtractDemands}
use Rattle.extract.proofs.Extracts.{broken_form, right_form, request_answer}

module _ (l : Lent) (reg : List ℕ) (k : Ask) (hs t : List ℕ) (room : ℕ) where
  abbrev call : Result (List ℕ)
  call = extract_call l reg k hs t room

  abbrev asked : Result (Unit {0})
  asked = request_call l reg k

  form_of : formed hs t room ≡ true → InForm hs t room
  form_of = (in_form hs t room).0

  formed_of : InForm hs t room → formed hs t room ≡ true
  formed_of = (in_form hs t room).1

  broken_of : (InForm hs t room → ⊥) → formed hs t room ≡ false
  broken_of n = not_passed (λ e. n (form_of e))

  -- by the test of the form
  either_form : {X : Type 0} → (formed hs t room ≡ true → X) → (formed hs t room ≡ false → X) → X
  either_form {X} f g = go (formed hs t room) refl
    where
      go : (b : Bool) → formed hs t room ≡ b → X
      go true e = f e
      go false e = g e

  granted : (xs : List ℕ) → (call ≡ ok xs) ↔ Extractable l reg k hs t room xs
  granted xs = (from, to)
    where
      from : call ≡ ok xs → Extractable l reg k hs t room xs
      from g = either_form
          (λ e. followed asked (ok (joined hs t)) (sym (right_form l reg k hs t room e) ∙ g) λ x a b.
          let f = form_of e in
          subst (Extractable l reg k hs t room) (ok_inj b)
          (record { form = f; request = (demand2.grants l reg k).0 a; count = joined_length hs t; right = joined_right hs t room f }))
          (λ e. absurd (not_ok (sym (broken_form l reg k hs t room e) ∙ g)))

      to : Extractable l reg k hs t room xs → call ≡ ok xs
      to x =
          right_form l reg k hs t room (formed_of x.form)
          ∙ ap (λ (o : Result (Unit {0})). o >> ok (joined hs t)) ((demand2.grants l reg k).1 x.request)
          ∙ ap ok (sym (right_joined hs t room x.form xs x.count x.right))

  refused_then : {m place : ℕ} → call ≡ refused m place → ExtractRefused l reg k hs t room m place
  refused_then {m} {place} g = either_form
      (λ e. stopped_then asked (ok (joined hs t)) (sym (right_form l reg k hs t room e) ∙ g)
      (λ a. extract_request (form_of e) (((demand1.requests l reg k).refuses m place).0 a))
      λ x a b. absurd (not_refused b))
      (λ e.
      let r : refused out_of_form 0 ≡ refused m place = sym (broken_form l reg k hs t room e) ∙ g in
      subst₂ (ExtractRefused l reg k hs t room) (number_is r) (place_is r) (extract_21 (λ f. passed_not e (formed_of f))))

  then_refused : {m place : ℕ} → ExtractRefused l reg k hs t room m place → call ≡ refused m place
  then_refused (extract_21 n) = broken_form l reg k hs t room (broken_of n)
  then_refused (extract_request {m} {place} f r) =
      right_form l reg k hs t room (formed_of f) ∙ stop_then (ok (joined hs t)) (((demand1.requests l reg k).refuses m place).1 r)

  -- a request is never refused with 21
  not_21 : (o : Result (Unit {0})) → asked ≡ o → number_of (o >> ok (joined hs t)) ≡ out_of_form → ⊥
  not_21 (ok x) e n = omega arith
  not_21 (refused m place) e n = (request_bound l reg k e).0.2 n

  form_first : (number_of call ≡ out_of_form) ↔ (InForm hs t room → ⊥)
  form_first = (
    λ n f. not_21 asked refl (sym (ap number_of (right_form l reg k hs t room (formed_of f))) ∙ n),
    λ n.
        ap number_of (broken_form l reg k hs t room (broken_of n)),
  )

  then_request : InForm hs t room → without_value call ≡ asked
  then_request f = request_answer l reg k hs t room (formed_of f)

  -- the output of an extract that is granted
  written_right : {xs : List ℕ} (old : List ℕ) → length old ≡ room → Extractable l reg k hs t room xs → Right hs t old (after_write call old)
  written_right {xs} old n x =
      let e : after_write call old ≡ after_write (ok (joined hs t)) old =
      ap (λ (o : Result (List ℕ)). after_write o old) ((granted xs).1 x ∙ ap ok (right_joined hs t room x.form xs x.count x.right)) in
      (output_right hs t old (after_write call old) (rw n x.form)).0 e

  unread_words : {reg' : List ℕ} → SameFront reg reg' → call ≡ extract_call l reg' k hs t room
  unfolding extract_call
  unread_words f = ap (λ (o : Result (Unit {0})). require (formed hs t room) out_of_form 0 >> (o >> ok (joined hs t))) (unread.requests l k f)

  pub extract_demands : ExtractDemands l reg k hs t room
  extract_demands = record {
    answers = one_answer call granted (λ m place. (refused_then, then_refused));
    form_first = form_first;
    then_request = then_request;
    as_request = λ f. ap (λ (o : Result (Unit {0})). after_request o reg k) (then_request f);
    register_kept = λ r. ap (λ (o : Result (List ℕ)). after_request (without_value o) reg k) (then_refused r);
    output_right = λ {xs} old n x. written_right old n x;
    output_kept = λ old r. ap (λ (o : Result (List ℕ)). after_write o old) (then_refused r);
    unread = unread_words;
  }

  -- a refusal's number is at most the last one, and its place within what was lent
  refused_within : {m place : ℕ} → ExtractRefused l reg k hs t room m place → (m ≤ last_refusal) × (place ≤ length l.sig + length k.proof)
  refused_within (extract_21 n) = (omega arith, omega arith)
  refused_within (extract_request {m} {place} f r) =
      let (n, q) = request_bound l reg k (((demand1.requests l reg k).refuses m place).1 r) in
      (omega (arith, n.1), q)

  pub extract_bound : {m place : ℕ} → call ≡ refused m place → (m ≤ last_refusal) × (place ≤ length l.sig + length k.proof)
  extract_bound e = refused_within (refused_then e)
