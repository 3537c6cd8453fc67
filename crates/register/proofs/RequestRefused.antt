-- A request is refused exactly as specs/Refuses says.
use Prim.Native.Nat.{ℕ, ◌+◌}
use mathlib.Core.Path.{◌≡◌, refl, subst}
use mathlib.Core.Logic.{inl, inr, ◌↔◌}
use mathlib.Core.Bool.{Bool, true, false, ◌&&◌}
use mathlib.Core.List.{List}
use mathlib.Core.Option.{some}
use native.Mathlib.Omega.{arith}
use lib.Dec.{leb, ltb}
use lib.ListN.{length}
use borrow.Author.Tests.{leb-true, leb-false, le-leb, lt-leb, ltb-true, ltb-false, lt-ltb}
use Rattle.logic.specs.Limits.{payloads}
use Rattle.logic.specs.Result.{refused, ◌>>=◌}
use Rattle.logic.specs.Infer.{same}
use Rattle.logic.specs.Check.{check_term, Passes}
use Rattle.logic.proofs.Results.{bind_is, then_is, pass, both_true, true_both}
use Rattle.logic.proofs.Stopped.{stopped, stopped_then, failed, stop, stop_then, fail, not_passed, passed_not, and_fails, require_failed}
use Rattle.logic.proofs.Proposition.{same_true, same_yes, same_no}
use Rattle.logic.proofs.Check.{check_term_right}
use Rattle.logic.proofs.Refused.{check_term_refused}
use Rattle.register.specs.Records.{Ask, used, words_of, statements, holding}
use Rattle.register.specs.Calls.{Lent, view, outline_of, signs_held, payload, permission, entry, ask_test, proved_own, request_own, request_call}
use Rattle.register.specs.Succeeds.{Checkable}
use Rattle.register.specs.Refuses.{Admitted, BadRequest, GoodRequest, InTime, RequestRefused, request_shared, request_5, request_23}
use Rattle.register.specs.Refuses.{request_typing, request_13, request_14, request_16}
use Rattle.register.proofs.Shared.{signature_of, register_is, signs_right}
use Rattle.register.proofs.SharedRefused.{signs_refused, register_stopped, register_stops}

module _ (l : Lent) (reg : List ℕ) (k : Ask) where
  request_row : {m p m' p' : ℕ} → RequestRefused l reg k m' p' → m ≡ m' → p ≡ p' → RequestRefused l reg k m p
  request_row r n z = rw (n, z) r

  -- the operation is one of those there are
  abbrev below : Bool
  below = ltb k.operation l.n

  bad_request : ask_test l.n k ≡ false → BadRequest l k
  bad_request e = elim (and_fails (below && payload k.extract) (payload k.delivery) e) [
    | inr h ↦ inr (inr (ltb-false k.delivery payloads h))
    | inl h ↦ elim (and_fails below (payload k.extract) h) [
      | inl f ↦ inl (ltb-false k.operation l.n f)
      | inr f ↦ inr (inl (ltb-false k.extract payloads f))
    ]
  ]

  good_request : ask_test l.n k ≡ true → GoodRequest l k
  good_request e =
      let (h, u) = both_true (below && payload k.extract) (payload k.delivery) e in
      let (i, v) = both_true below (payload k.extract) h in
      (ltb-true k.operation l.n i, ltb-true k.extract payloads v, ltb-true k.delivery payloads u)

  request_passed : GoodRequest l k → ask_test l.n k ≡ true
  request_passed g =
      true_both (true_both (lt-ltb k.operation l.n g.0) (lt-ltb k.extract payloads g.1)) (lt-ltb k.delivery payloads g.2)

  request_failed : BadRequest l k → ask_test l.n k ≡ false
  request_failed b = not_passed λ e. let (i, v, u) = good_request e in elim b [ inl h ↦ omega arith | inr (inl h) ↦ omega arith | inr (inr h) ↦ omega arith ]

  pub request_refused : (m p : ℕ) → (request_call l reg k ≡ refused m p) ↔ RequestRefused l reg k m p
  request_refused m p = (from, to)
    where
      from : request_call l reg k ≡ refused m p → RequestRefused l reg k m p
      from e =
          register_stopped l reg (request_own k) e request_shared λ h e₁.
          let sig = signature_of h.ready in
          let rs = h.content.records in
          failed (ask_test l.n k) _ _ _ e₁ (λ f. request_row (request_5 h (bad_request f))) λ f e₂.
          let good = good_request f in
          failed (leb h.content.latest k.day) _ _ _ e₂ (λ y. request_row (request_23 h good (leb-false h.content.latest k.day y))) λ y e₃.
          let timely : InTime l reg k.day = record { admitted = h; not_before = leb-true h.content.latest k.day y } in
          stopped (check_term h.Σ k.proof) _ e₃ (λ r. request_typing timely good ((check_term_refused h.Σ sig k.proof m p).0 r)) λ c r e₄.
          let passes = (check_term_right h.Σ sig k.proof c.term c.type).0 r in
          failed (same c.type (permission k)) _ _ _ e₄ (λ f. request_row (request_13 timely good passes λ q. passed_not f (same_yes q))) λ f e₅.
          let permitted : Passes h.Σ k.proof c.term (permission k) = subst (Passes h.Σ k.proof c.term)
          (same_true c.type (permission k) f) passes in
          stopped_then (signs_held (holding (some k.day) (statements rs)) c.term) _ e₅
          (λ s. request_14 timely good permitted ((signs_refused (some k.day) rs c.term m p).0 s)) λ v s e₆.
          let (full, n, z) = require_failed (leb (used reg + length (words_of (entry k))) (length reg)) _ _ e₆ in
          let proved : Checkable l reg k.day k.proof (permission k) = record {
            content = h.content;
            unbroken = h.unbroken;
            Σ = h.Σ;
            ready = h.ready;
            t = c.term;
            passes = permitted;
            signs = (signs_right (some k.day) rs c.term).0 s;
          } in
          request_row (request_16 good proved timely.not_before (leb-false (used reg + length (words_of (entry k))) (length reg) full)) n z

      own_is : {m p : ℕ} (h : Admitted l reg) → request_own k (view l (outline_of reg) h.content h.Σ) ≡ refused m p → request_call l reg k ≡ refused m p
      own_is h e = register_is l reg (request_own k) h.unbroken h.ready e

      -- the proof is checked
      checks : {m p : ℕ} (h : InTime l reg k.day) → GoodRequest l k →
          (check_term h.admitted.Σ k.proof >>= λ c. proved_own k c (view l (outline_of reg) h.admitted.content h.admitted.Σ)) ≡
          refused m p → request_call l reg k ≡ refused m p
      checks h good e = own_is h.admitted (pass _ _ (request_passed good) (pass _ _ (le-leb h.admitted.content.latest k.day h.not_before) e))

      to : {m p : ℕ} → RequestRefused l reg k m p → request_call l reg k ≡ refused m p
      to (request_shared r) = register_stops l reg (request_own k) r
      to (request_5 h b) = own_is h (fail _ _ _ (request_failed b))
      to (request_23 h good b) = own_is h (pass _ _ (request_passed good) (fail _ _ _ (lt-leb h.content.latest k.day b)))
      to (request_typing {m} {p} h good r) =
          let a = h.admitted in checks h good (stop _ ((check_term_refused a.Σ (signature_of a.ready) k.proof m p).1 r))
      to (request_13 {t} {A} h good c n) = let a = h.admitted in checks h good
          (bind_is _ ((check_term_right a.Σ (signature_of a.ready) k.proof t A).1 c) (fail _ _ _ (same_no n)))
      to (request_14 {t} {m} {p} h good c F) = let a = h.admitted in checks h good
          (bind_is _ ((check_term_right a.Σ (signature_of a.ready) k.proof t (permission k)).1 c)
          (pass _ _ (same_yes refl) (stop_then _ ((signs_refused (some k.day) a.content.records t m p).1 F))))
      to (request_16 good c y full) = register_is l reg (request_own k) c.unbroken c.ready
          (pass _ _ (request_passed good) (pass _ _ (le-leb c.content.latest k.day y)
          (bind_is _ ((check_term_right c.Σ (signature_of c.ready) k.proof c.t (permission k)).1 c.passes)
          (pass _ _ (same_yes refl) (then_is _ ((signs_right (some k.day) c.content.records c.t).1 c.signs) (rw (lt-leb _ _ full) refl))))))
