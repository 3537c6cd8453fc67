-- The demands of a load: the generator and the tests are those of the relations.
use Rattle.std.proofs.Common.{◌≡◌, ℕ, zero, suc, ◌+◌, ◌*◌, ◌/◌, Bool, true, false, cond, ◌&&◌, eqb, leb, ◌⊎◌, ◌↔◌, List}
use Rattle.std.proofs.Common.{◌++◌, length, sym, refl, ap, ◌∙◌, subst, ap₂, inl, inr, arith, eqb-true, leb-false}
use Rattle.std.proofs.Common.{leb-true}
use borrow.Author.Tests.{eqb-false}
use Rattle.logic.specs.Refusals.{load_size, output_short}
use Rattle.logic.specs.Result.{Result, ok, refused, ◌>>◌, require, Answers}
use Rattle.logic.proofs.Results.{ok_inj, tested}
use Rattle.logic.proofs.Refused.{inside, outside}
use Rattle.logic.proofs.Stopped.{one_answer, not_refused, failed}
use Rattle.words.specs.Place.{after_write}
use Rattle.words.proofs.Lists.{written_behind}
use Rattle.load.specs.Load.{most_requests, next_state, drawn_at, principal_from, request_words, request_length, load_words, load_call}
use Rattle.load.specs.Refuses.{NextState, DrawnAt, PrincipalOf, by_1, as_drawn, LoadOf, no_request, one_more, LoadRefused, load_29, load_25}
use Rattle.load.specs.Refuses.{Loads, LoadDemand}
use Rattle.load.proofs.Draws.{principal_other}
use Rattle.load.proofs.Writes.{load_length, out_of_range, load_too_short, load_is}

-- ---- one draw

next_is : {s t : ℕ} → NextState s t → t ≡ next_state s
next_is h = omega (arith, h.sum, h.below)

is_next : (s : ℕ) → NextState s (next_state s)
is_next s = record { times = (s * 1664525 + 1013904223) / 4294967296; sum = omega arith; below = omega arith }

drawn_is : {s x : ℕ} → DrawnAt s x → x ≡ drawn_at s
drawn_is h = omega (arith, h.sum, h.below)

is_drawn : (s : ℕ) → DrawnAt s (drawn_at s)
is_drawn s = record { times = s / 16777216; sum = omega arith; below = omega arith }

principal_is : {x a : ℕ} → PrincipalOf x a → a ≡ principal_from x
principal_is by_1 = refl
principal_is (as_drawn {x} n) = principal_other x n

is_principal : (x : ℕ) → PrincipalOf x (principal_from x)
is_principal x = go (eqb x 0) refl
  where
    go : (b : Bool) → eqb x 0 ≡ b → PrincipalOf x (cond b 1 x)
    go true e = subst (λ (y : ℕ). PrincipalOf y 1) (sym (eqb-true x 0 e)) by_1
    go false e = as_drawn (eqb-false x 0 e)

-- ---- the words

words_are : {s n : ℕ} {ws : List ℕ} → LoadOf s n ws → ws ≡ load_words n s
unfolding load_words
words_are no_request = refl
words_are (one_more {n = n} m₁ d₁ m₂ d₂ p m₃ d₃ rest) =
    let e₁ = next_is m₁ in
    let e₂ = next_is m₂ ∙ ap next_state e₁ in
    let e₃ = next_is m₃ ∙ ap next_state e₂ in
    let v-is = drawn_is d₁ ∙ ap drawn_at e₁ in
    let a-is = principal_is p ∙ ap principal_from (drawn_is d₂ ∙ ap drawn_at e₂) in
    let u-is = drawn_is d₃ ∙ ap drawn_at e₃ in
    ap₂ ◌++◌ (λ i. request_words (v-is i) (a-is i) (u-is i)) (words_are rest ∙ ap (load_words n) e₃)

are_words : (n s : ℕ) → LoadOf s n (load_words n s)
unfolding load_words
are_words zero s = no_request
are_words (suc n) s =
    let s₁ = next_state s in
    let s₂ = next_state s₁ in
    let s₃ = next_state s₂ in
    one_more (is_next s) (is_drawn s₁) (is_next s₁) (is_drawn s₂) (is_principal (drawn_at s₂)) (is_next s₂) (is_drawn s₃) (are_words n s₃)

-- ---- the answers

module _ (seed count room : ℕ) where
  abbrev call : Result (List ℕ)
  call = load_call seed count room

  -- what comes behind the tests
  abbrev words : Result (List ℕ)
  words = ok (load_words count seed)

  call_is : call ≡ (require (leb 1 count && leb count most_requests) load_size 0 >> (require (leb (request_length * count) room) output_short 0 >> words))
  unfolding load_call
  call_is = refl

  succeeds : (ws : List ℕ) → (call ≡ ok ws) ↔ Loads seed count room ws
  succeeds ws = (from, to)
    where
      from : call ≡ ok ws → Loads seed count room ws
      from e =
          tested (leb 1 count && leb count most_requests) _ _ _ (sym call_is ∙ e) λ good e₁. tested (leb (request_length * count) room) _ _ _ e₁ λ fits e₂.
          record {
            in_range = inside 1 most_requests count good;
            fits = leb-true (request_length * count) room fits;
            load_of = subst (LoadOf seed count) (ok_inj e₂) (are_words count seed);
          }

      to : Loads seed count room ws → call ≡ ok ws
      to h = load_is seed count room h.in_range.0 h.in_range.1 h.fits ∙ ap ok (sym (words_are h.load_of))

  refused_then : {m p : ℕ} → call ≡ refused m p → LoadRefused count room m p
  refused_then e =
      failed (leb 1 count && leb count most_requests) _ _ _ (sym call_is ∙ e) (λ bad n z. row (load_29 (outside 1 most_requests count bad)) n z) λ good e₁.
      failed (leb (request_length * count) room) _ _ _ e₁
      (λ short n z. row (load_25 (inside 1 most_requests count good) (leb-false (request_length * count) room short)) n z) λ fits e₂.
      absurd (not_refused e₂)
    where
      row : {m p m' p' : ℕ} → LoadRefused count room m' p' → m ≡ m' → p ≡ p' → LoadRefused count room m p
      row r n z = rw (n, z) r

  then_refused : {m p : ℕ} → LoadRefused count room m p → call ≡ refused m p
  then_refused (load_29 h) = out_of_range seed count room h
  then_refused (load_25 g h) = load_too_short seed count room g.0 g.1 h

  load_answers : Answers call (Loads seed count room) (LoadRefused count room)
  load_answers = one_answer call succeeds λ m p. (refused_then, then_refused)

  words_length : {ws : List ℕ} → Loads seed count room ws → length ws ≡ 33 * count
  words_length h = ap length (words_are h.load_of) ∙ load_length count seed

  -- the numbers of a refusal, and its place
  pub load_bound : {m p : ℕ} → call ≡ refused m p → ((m ≡ 29) ⊎ (m ≡ 25)) × (p ≡ 0)
  load_bound e = go (refused_then e)
    where
      go : {m p : ℕ} → LoadRefused count room m p → ((m ≡ 29) ⊎ (m ≡ 25)) × (p ≡ 0)
      go (load_29 h) = (inl refl, refl)
      go (load_25 g h) = (inr refl, refl)

pub load_demand : LoadDemand
load_demand = record {
  answers = load_answers;
  unchanged = λ seed count room old r. ap (λ (o : Result (List ℕ)). after_write o old) (then_refused seed count room r);
  past = λ seed count room ws old e.
      let n = words_length seed count room ((succeeds seed count room ws).0 e) in
      (n, written_behind old _ ws (33 * count) (ap (λ (o : Result (List ℕ)). after_write o old) e) (sym n));
}
