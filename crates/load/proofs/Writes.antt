-- What the code writes and answers, by the definitions.
use Rattle.std.proofs.Common.{◌≡◌, ℕ, zero, suc, ◌+◌, ◌*◌, ◌<◌, ◌≤◌, ◌&&◌, leb, ◌⊎◌, List, ◌∷◌, ◌++◌, length, take, sym}
use Rattle.std.proofs.Common.{refl, ap, ◌∙◌, ap₂, inl, inr, arith, le-leb}
use borrow.Author.Tests.{lt-leb}
use Rattle.logic.specs.Refusals.{load_size, output_short}
use Rattle.logic.specs.Result.{Result, ok, refused, ◌>>=◌}
use Rattle.logic.specs.Term.{encode}
use Rattle.logic.proofs.Results.{pass, true_both}
use Rattle.logic.proofs.Stopped.{fail}
use Rattle.words.specs.Place.{written_at, after_write}
use Rattle.words.proofs.Lists.{written_then, written_none, length_written}
use Rattle.forms.specs.Forms.{consent_form, proof_form}
use Rattle.load.specs.Answers.{WrittenAs}
use Rattle.load.specs.Load.{most_requests, next_state, drawn_at, principal_from, request_words, request_length, load_words, load_call}

-- ---- one request

words_length : (v a u : ℕ) → length (request_words v a u) ≡ request_length
unfolding encode
words_length v a u = refl

pub load_length : (count seed : ℕ) → length (load_words count seed) ≡ request_length * count
unfolding load_words encode
load_length zero s = refl
load_length (suc n) s = let h = load_length n (next_state (next_state (next_state s))) in omega arith

-- the two copies together
pub request_written : (v a u : ℕ) (old mid new proof : List ℕ) (at : ℕ) → at + request_length ≤ length old → proof ≡ encode (proof_form 0 2 v a) →
    mid ≡ written_at old at (v ∷ a ∷ u ∷ encode (consent_form 2 v)) → new ≡ written_at mid (at + 6) (take 27 proof) →
    new ≡ written_at old at (request_words v a u)
unfolding encode
request_written v a u old mid new proof at h ep em en =
    en ∙ ap₂ (λ (m w : List ℕ). written_at m (at + 6) (take 27 w)) em ep
    ∙ written_then old at (v ∷ a ∷ u ∷ encode (consent_form 2 v)) (encode (proof_form 0 2 v a)) (omega arith)

-- ---- the tests

module _ (seed count room : ℕ) where
  pub out_of_range : (count < 1) ⊎ (most_requests < count) → load_call seed count room ≡ refused load_size 0
  unfolding load_call
  out_of_range (inl h) = fail _ _ _ (ap (λ b. b && leb count most_requests) (lt-leb 1 count h))
  out_of_range (inr h) = fail _ _ _ (ap₂ (λ a b. a && b) (le-leb 1 count (omega arith)) (lt-leb count most_requests h))

  pub load_too_short : 1 ≤ count → count ≤ most_requests → room < request_length * count → load_call seed count room ≡ refused output_short 0
  unfolding load_call
  load_too_short h k l = pass _ _ (true_both (le-leb 1 count h) (le-leb count most_requests k)) (fail _ _ _ (lt-leb (request_length * count) room l))

  pub load_is : 1 ≤ count → count ≤ most_requests → request_length * count ≤ room → load_call seed count room ≡ ok (load_words count seed)
  unfolding load_call
  load_is h k l =
      pass _ _ (true_both (le-leb 1 count h) (le-leb count most_requests k)) (pass _ _ (le-leb (request_length * count) room l) refl)

-- ---- what is answered

-- a refusal writes nothing
pub none_written : {o : Result (List ℕ)} {m p : ℕ} (old : List ℕ) (r : Result ℕ) → o ≡ refused m p → r ≡ refused m p → WrittenAs o old old r
none_written old r e f = record { answer = f ∙ sym (ap (λ x. x >>= λ xs. ok (length xs)) e); output = sym (ap (λ x. after_write x old) e) }

-- ---- the loop

-- the words of the requests that are left are to be written behind those of the first i
pub record Loading (seed count : ℕ) (old out : List ℕ) (state i : ℕ) : Type 0 where
  pub left : ℕ
  pub same_length : length out ≡ length old
  pub placed : i + left ≡ count
  pub rest : written_at out (request_length * i) (load_words left state) ≡ written_at old 0 (load_words count seed)

pub loading_starts : (seed count : ℕ) (old : List ℕ) → Loading seed count old old seed 0
loading_starts seed count old = record { left = count; same_length = refl; placed = omega arith; rest = refl }

module _ (seed count : ℕ) (old out : List ℕ) (state i : ℕ) (fits : request_length * count ≤ length old) (L : Loading seed count old out state i) where
  pub loading_turn : (out₁ : List ℕ) (s₁ s₂ s₃ a : ℕ) → i < count → s₁ ≡ next_state state → s₂ ≡ next_state s₁ →
      s₃ ≡ next_state s₂ → a ≡ principal_from (drawn_at s₂) → out₁ ≡ written_at out (request_length * i) (request_words (drawn_at s₁) a (drawn_at s₃)) →
      Loading seed count old out₁ s₃ (i + 1)
  unfolding load_words
  loading_turn out₁ s₁ s₂ s₃ a h e₁ e₂ e₃ ea eo = turn L.left L.placed L.rest
    where
      turn : (left : ℕ) → i + left ≡ count → written_at out (request_length * i) (load_words left state) ≡ written_at old 0 (load_words count seed) →
          Loading seed count old out₁ s₃ (i + 1)
      turn zero placed rest = absurd (omega arith)
      turn (suc n) placed rest =
          let ws : List ℕ = request_words (drawn_at s₁) a (drawn_at s₃) in
          let k : request_length * (i + 1) ≡ request_length * i + length ws = omega (arith, words_length (drawn_at s₁) a (drawn_at s₃)) in
          let f₂ = e₂ ∙ ap next_state e₁ in
          let f₃ = e₃ ∙ ap next_state f₂ in
          let fa = ea ∙ ap (λ s. principal_from (drawn_at s)) f₂ in
          record {
            left = n;
            same_length = ap length eo ∙ length_written out (request_length * i) ws (omega (arith, L.same_length)) ∙ L.same_length;
            placed = omega arith;
            rest =
                ap₂ (λ (m : List ℕ) (j : ℕ). written_at m j (load_words n s₃)) eo k
                ∙ written_then out (request_length * i) ws (load_words n s₃) (omega (arith, L.same_length))
                ∙ (λ j. written_at out (request_length * i) (request_words (drawn_at (e₁ j)) (fa j) (drawn_at (f₃ j)) ++ load_words n (f₃ j)))
                ∙ rest;
          }

  pub loading_ends : count ≤ i → 1 ≤ count → count ≤ most_requests → WrittenAs (load_call seed count (length old)) old out (ok (request_length * count))
  unfolding load_words
  loading_ends h few many =
      let e = load_is seed count (length old) few many fits in
      record {
        answer = ap ok (sym (load_length count seed)) ∙ sym (ap (λ x. x >>= λ xs. ok (length xs)) e);
        output = ends L.left L.placed L.rest ∙ sym (ap (λ x. after_write x old) e);
      }
    where
      ends : (left : ℕ) → i + left ≡ count → written_at out (request_length * i) (load_words left state) ≡ written_at old 0 (load_words count seed) →
          out ≡ written_at old 0 (load_words count seed)
      ends zero placed rest = sym (written_none out (request_length * i)) ∙ rest
      ends (suc n) placed rest = absurd (omega arith)
