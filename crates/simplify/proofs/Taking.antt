-- What a turn gives: the first step's result, by the definitions' tests.
use Prim.Native.Nat.{ℕ, ◌≤◌, ◌<◌}
use native.Mathlib.Omega.{arith}
use mathlib.Core.Path.{◌≡◌, refl, sym, ap, subst, ◌∙◌}
use mathlib.Core.List.{List}
use mathlib.Core.Option.{Option, some, none}
use Rattle.std.specs.Prelude.{Some, None}
use Rattle.std.specs.Prelude.{Option as Maybe}
use Rattle.std.proofs.lemmas.Option.{cond_some}
use lib.Dec.{leb}
use lib.ListN.{length}
use borrow.Author.Tests.{le-leb, lt-leb, leb-true, leb-false, lt-ltb}
use Rattle.logic.specs.Limits.{most_words, most_nesting}
use Rattle.logic.specs.Refusals.{term_length, nesting, step_remains}
use Rattle.logic.specs.Result.{Result, ok, refused, ◌>>◌, nowhere}
use Rattle.logic.specs.Term.{Term, encode, size}
use Rattle.logic.specs.Reading.{Plain}
use Rattle.logic.proofs.Basics.{clash, some_inj}
use Rattle.logic.proofs.Results.{ok_inj, pass, then_is}
use Rattle.logic.proofs.Stopped.{fail, stop_then}
use Rattle.words.specs.Place.{At, written_at}
use Rattle.words.specs.Nesting.{nested_to}
use Rattle.words.proofs.Nestings.{within_is, past_is}
use Rattle.reduction.specs.Steps.{next_step}
use Rattle.reduction.specs.Simplify.{in_limits}
use Rattle.steps.specs.Redex.{first_place, redex_answer}
use Rattle.steps.specs.Step.{SteppedTo}
use Rattle.steps.proofs.Sites.{TakenAt, taken_at}
use Rattle.steps.proofs.StepWords.{unique_at, cond_none}
use Rattle.simplify.specs.Turn.{Turnable, turned, TurnedTo}

-- words written at the front stand there
pub front_at : (old : List ℕ) (t : Term) → Plain t → At (written_at old 0 (encode t)) 0 t
front_at old t p = record { plain = p; rest = _; words = refl }

-- ---- what the search tells, of the term that `requires` brought

pub taken : {from : List ℕ} {n room at : ℕ} {r : Maybe ℕ} (p : Turnable from n room) → ((t : Term) → At from 0 t → redex_answer r ≡ first_place 0 t) →
    r ≡ Some at → TakenAt 0 p.term at
taken p f e = taken_at 0 _ p.term (sym (f p.term p.here) ∙ ap redex_answer e)

-- ---- what forming the result tells

pub stepped_over : {u : Term} {old new : List ℕ} {r : Maybe ℕ} → SteppedTo u old new r → r ≡ None → length old < size u
stepped_over {u} {old} s e = leb-false (size u) (length old) (cond_none (leb (size u) (length old)) (size u) (sym s.answer ∙ e))

pub record Formed (u : Term) (new : List ℕ) (n : ℕ) : Type 0 where
  pub count : n ≡ size u
  pub small : size u ≤ most_words
  pub here : At new 0 u

pub formed : {from : List ℕ} {size_is room : ℕ} (p : Turnable from size_is room) {u : Term} {old new : List ℕ} {r : Maybe ℕ} {n : ℕ} →
    next_step p.term ≡ some u → length old ≡ most_words → SteppedTo u old new r → r ≡ Some n → Formed u new n
formed p {u} {old} {n = n} i w s e =
    let (b, q) = cond_some (leb (size u) (length old)) (size u) n (sym s.answer ∙ e) in
    let l = leb-true (size u) (length old) b in
    let k : size u ≤ most_words = omega arith in
    record { count = sym q; small = k; here = rw (s.words l) (front_at old u (p.plain u i k)) }

-- ---- the limits of a result

pub limit_words : (u : Term) → most_words < size u → in_limits u ≡ refused term_length 0
limit_words u l = fail term_length 0 _ (lt-leb (size u) most_words l)

pub limit_nesting : (u : Term) (m p : ℕ) → size u ≤ most_words → nested_to most_nesting 0 u ≡ refused m p → in_limits u ≡ refused m p
limit_nesting u m p l e =
    let x = past_is most_nesting 0 m p u e in
    pass term_length 0 (le-leb (size u) most_words l) (ap (nowhere nesting) x.1 ∙ ap (λ k. refused k p) x.0)

pub limits_passed : (u : Term) (end : ℕ) → size u ≤ most_words → nested_to most_nesting 0 u ≡ ok end → in_limits u ≡ ok tt
limits_passed u end l e = pass term_length 0 (le-leb (size u) most_words l) (ap (nowhere nesting) (within_is most_nesting 0 end u e).0)

-- ---- what the code returns, of any term that stands in front

-- no step is left
pub turn_settled : {from new : List ℕ} {t : Term} (left : ℕ) → At from 0 t → next_step t ≡ none → (x : Term) → At from 0 x →
    TurnedTo (turned left (next_step x)) new (ok None)
turn_settled {new = new} left h e x k = rw (unique_at k h, e) (record { answer = refl; front = λ u i. absurd (clash (cc)) })

-- a step is left, and so is some of the budget
left_over : (u : Term) (left : ℕ) {o : Result (Option Term)} → (left ≡ 0 → ⊥) → (in_limits u >> ok (some u)) ≡ o → turned left (some u) ≡ o
left_over u left z q = pass step_remains 0 (lt-ltb 0 left (omega arith)) q

module _ {from : List ℕ} {t u : Term} (left : ℕ) (h : At from 0 t) (e : next_step t ≡ some u) {new : List ℕ} where
  turn_refused : (m p : ℕ) (r : Result (Maybe ℕ)) → turned left (some u) ≡ refused m p → r ≡ refused m p → (x : Term) → At from 0 x →
      TurnedTo (turned left (next_step x)) new r
  turn_refused m p r q f x k = rw (unique_at k h, e, q) (record { answer = f; front = λ u i. absurd (clash (cc)) })

  pub turn_used : (r : Result (Maybe ℕ)) → left ≡ 0 → r ≡ refused step_remains 0 → (x : Term) → At from 0 x → TurnedTo (turned left (next_step x)) new r
  turn_used r z = turn_refused step_remains 0 r (ap (λ (k : ℕ). turned k (some u)) z)

  module _ (z : left ≡ 0 → ⊥) where
    pub turn_limited : (m p : ℕ) (r : Result (Maybe ℕ)) → in_limits u ≡ refused m p → r ≡ refused m p → (x : Term) → At from 0 x →
        TurnedTo (turned left (next_step x)) new r
    turn_limited m p r q = turn_refused m p r (left_over u left z (stop_then _ q))

    pub turn_stepped : {n : ℕ} → in_limits u ≡ ok tt → n ≡ size u → At new 0 u → (x : Term) → At from 0 x →
        TurnedTo (turned left (next_step x)) new (ok (Some n))
    turn_stepped {n} q c a x k =
        let o = left_over u left z (then_is _ q refl) in
        rw (unique_at k h, e, o) (record { answer = ap (λ (y : ℕ). ok (Some y)) c; front = λ v i. subst (At new 0) (some_inj (ok_inj i)) a })
