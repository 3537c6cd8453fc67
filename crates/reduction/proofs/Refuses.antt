-- The call simplifies and refuses exactly as specs/Refuses says: check's tests by the demands of `register`, and the
-- steps by proofs/Simplify.
use Prim.Native.Nat.{ℕ, ◌+◌, ◌≤◌, ◌<◌}
use mathlib.Core.Path.{◌≡◌, refl, sym, ap, subst, ◌∙◌}
use mathlib.Core.Logic.{◌⊎◌, inl, inr, ◌↔◌, ◌≢◌}
use mathlib.Core.List.{List}
use lib.Dec.{leb}
use lib.ListN.{length, take, drop}
use borrow.Author.Tests.{leb-true, leb-false, le-leb, lt-leb}
use native.Mathlib.Omega.{arith}
use Rattle.logic.specs.Limits.{most_words, most_nesting}
use Rattle.logic.specs.Refusals.{nesting, out_of_form, unbound, step_remains}
use Rattle.logic.specs.Result.{Result, ok, refused, ◌>>=◌, ◌>>◌}
use Rattle.logic.specs.Term.{Term, size, encode}
use Rattle.logic.specs.Check.{term_of}
use Rattle.logic.proofs.Words.{encode_size}
use Rattle.logic.proofs.Results.{ok_inj, bound, followed, tested, bind_is, then_is, pass}
use Rattle.logic.proofs.Stopped.{one_answer, not_refused, stopped, stopped_then, failed, stop, stop_then, fail}
use Rattle.logic.proofs.Searches.{stands_within}
use Rattle.logic.proofs.Check.{term_of_right}
use Rattle.register.specs.Calls.{Lent, check_call}
use Rattle.register.specs.Succeeds.{Checkable}
use Rattle.register.proofs.Succeeds.{demand2}
use Rattle.register.proofs.Unread.{unread}
use Rattle.register.proofs.Bounds.{check_bound}
use Rattle.register.proofs.Refuses.{demand1}
use Rattle.words.proofs.Lists.{written_front, written_behind}
use Rattle.words.specs.Place.{written_at}
use Rattle.reduction.specs.Simplify.{Simplified, simplify, Finished, ended_6, ended_8, ended_26}
use Rattle.reduction.specs.Call.{fitting_result, simplify_own, simplify_call, after_simplify}
use Rattle.reduction.specs.Refuses.{SimplifyRefused, simplify_check, simplify_ended, simplify_25, Simplifiable, SimplifyDemands}
use Rattle.reduction.proofs.Simplify.{simplify_right, simplify_refused}

module _ (l : Lent) (reg : List ℕ) (day : ℕ) (ws : List ℕ) where
  -- the words of a term that checks are read as that term
  pub checked_term : {A : Term} (h : Checkable l reg day ws A) → term_of most_words most_nesting ws ≡ ok h.t
  checked_term h = (term_of_right most_words most_nesting ws h.t).1 h.passes.term

  module _ (budget room : ℕ) where
    abbrev call : Result Simplified
    call = simplify_call l reg day ws budget room

    -- where the words check, the term that they are is simplified
    pub from_check : {A : Term} (h : Checkable l reg day ws A) {y : Result Simplified} → (simplify budget h.t >>= fitting_result room) ≡ y → call ≡ y
    from_check {A} h e = then_is _ ((demand2.checks l reg day ws A).1 h) (bind_is _ (checked_term h) e)

    -- a result of the call is that of the term that the words are, and has room
    pub finished : {A : Term} {r : Simplified} (h : Checkable l reg day ws A) → call ≡ ok r → Finished budget h.t r × (size r.result ≤ room)
    finished h e = bound (simplify budget h.t) _ (sym (from_check h refl) ∙ e) λ s f e₁. tested (leb (size s.result) room) _ _ _ e₁ λ b e₂.
        subst (λ r. Finished budget h.t r × (size r.result ≤ room)) (ok_inj e₂)
        ((simplify_right budget h.t s).0 f, leb-true (size s.result) room b)

    abbrev checked : {A : Term} → check_call l reg day ws ≡ ok A → Checkable l reg day ws A
    checked {A} c = (demand2.checks l reg day ws A).0 c

    succeeds : (r : Simplified) → (call ≡ ok r) ↔ Simplifiable l reg day ws budget room r
    succeeds r = (
      λ e. followed (check_call l reg day ws) _ e λ A c _. let (f, s) = finished (checked c) e in
          record { type = A; checked = checked c; finished = f; fits = s },
      λ h. from_check h.checked (bind_is _ ((simplify_right budget h.checked.t r).1 h.finished)
          (pass _ _ (le-leb (size r.result) room h.fits) refl)),
    )

    pub refused_row : {m p : ℕ} → SimplifyRefused l reg day ws budget room m p → call ≡ refused m p
    refused_row (simplify_check {m} {p} h) = stop_then _ (((demand1.checks l reg day ws).refuses m p).1 h)
    refused_row (simplify_ended {m = m} {p} h e) = from_check h (stop _ ((simplify_refused budget h.t m p).1 e))
    refused_row (simplify_25 {r = r} h f b) =
        from_check h (bind_is _ ((simplify_right budget h.t r).1 f) (fail _ _ _ (lt-leb (size r.result) room b)))

    row_refused : (m p : ℕ) → call ≡ refused m p → SimplifyRefused l reg day ws budget room m p
    row_refused m p e = stopped_then (check_call l reg day ws) _ e (λ c. simplify_check (((demand1.checks l reg day ws).refuses m p).0 c)) λ A c _.
        let h = checked c in
        stopped (simplify budget h.t) _ (sym (from_check h refl) ∙ e) (λ f. simplify_ended h ((simplify_refused budget h.t m p).0 f)) λ r f e₁.
        failed (leb (size r.result) room) _ _ _ e₁
        (λ b x y. rw (x, y) (simplify_25 h ((simplify_right budget h.t r).0 f) (leb-false (size r.result) room b))) λ b e₂. absurd (not_refused e₂)

-- a number of the documents', where 21 and 24 are other calls', and a place within what was lent, or of 8 within a step's result
abbrev Bounded : Lent → List ℕ → (number place : ℕ) → Type 0
Bounded l ws m p = ((1 ≤ m) × (m ≤ step_remains) × (m ≢ out_of_form) × (m ≢ unbound)) ×
    ((p ≤ length l.sig + length ws) ⊎ ((m ≡ nesting) × (p < most_words)))

pub simplify_bound : (l : Lent) (reg : List ℕ) (day : ℕ) (ws : List ℕ) (budget room : ℕ) {m p : ℕ} → simplify_call l reg day ws budget room ≡ refused m p →
    Bounded l ws m p
simplify_bound l reg day ws budget room {m} {p} e = go (row_refused l reg day ws budget room m p e)
  where
    go : {m p : ℕ} → SimplifyRefused l reg day ws budget room m p → Bounded l ws m p
    go (simplify_check {m} {p} h) = let (n, q) = check_bound l reg day ws (((demand1.checks l reg day ws).refuses m p).1 h) in (omega arith, inl q)
    go (simplify_ended h (ended_6 s k f n)) = (omega arith, inl (omega arith))
    go (simplify_ended h (ended_8 s k f n d)) = let (i, j) = stands_within d.deep in (omega arith, inr (refl, omega (arith, d.place)))
    go (simplify_ended h (ended_26 s f)) = (omega arith, inl (omega arith))
    go (simplify_25 h f k) = (omega arith, inl (omega arith))

written : {l : Lent} {reg : List ℕ} {day : ℕ} {ws : List ℕ} {budget : ℕ} {r : Simplified} (old : List ℕ) →
    Simplifiable l reg day ws budget (length old) r →
    let new = after_simplify (simplify_call l reg day ws budget (length old)) old in
    (take (size r.result) new ≡ encode r.result) × (drop (size r.result) new ≡ drop (size r.result) old)
written {l} {reg} {day} {ws} {budget} {r} old h =
    let xs : List ℕ = encode r.result in
    let n : size r.result ≡ length xs = sym (encode_size r.result) in
    let e : after_simplify (simplify_call l reg day ws budget (length old)) old ≡ written_at old 0 xs =
    ap (λ o. after_simplify o old) ((succeeds l reg day ws budget (length old) r).1 h) in
    (written_front old _ xs (size r.result) e n, written_behind old _ xs (size r.result) e n)

pub simplify_demands : SimplifyDemands
simplify_demands = record {
  answers = λ l reg day ws budget room. one_answer (simplify_call l reg day ws budget room) (succeeds l reg day ws budget room)
      (λ m p. (row_refused l reg day ws budget room m p, refused_row l reg day ws budget room));
  unchanged = λ {l} {reg} {day} {ws} {budget} {room} old h. ap (λ o. after_simplify o old) (refused_row l reg day ws budget room h);
  written = written;
  unread = λ l day ws budget room f. ap (λ o. o >> simplify_own budget room ws) (unread.checks l day ws f);
}
