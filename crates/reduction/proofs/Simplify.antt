-- Simplifying gives a result, or a refusal, exactly where specs/Simplify says so.
use Prim.Native.Nat.{ℕ, zero, suc, ◌+◌, ◌-◌, ◌≤◌}
use mathlib.Core.Path.{◌≡◌, refl, ◌∙◌, ap}
use mathlib.Core.Logic.{◌↔◌}
use mathlib.Core.Option.{Option, some, none}
use native.Mathlib.Omega.{arith}
use lib.Dec.{leb}
use borrow.Author.Tests.{leb-true, leb-false, le-leb, lt-leb}
use Rattle.logic.specs.Limits.{most_words, most_nesting}
use Rattle.logic.specs.Refusals.{nesting}
use Rattle.logic.specs.Result.{Result, ok, refused, ◌>>=◌, ◌>>◌, nowhere}
use Rattle.logic.specs.Term.{Term, size}
use Rattle.logic.specs.Reading.{too_deep}
use Rattle.logic.proofs.Results.{tested, nowhere_ok, bind_is, then_is, pass}
use Rattle.logic.proofs.Stopped.{failed, nowhere_met, stop, stop_then, fail}
use Rattle.logic.proofs.Searches.{too_deep_right, too_deep_first}
use Rattle.reduction.specs.Steps.{next_step, FirstStep}
use Rattle.reduction.specs.Simplify.{Simplified, in_limits, one_before, at_budget, from_step, simplify, InLimits, FirstSteps, no_step, one_step}
use Rattle.reduction.specs.Simplify.{Finished, Ended, ended_6, ended_8, ended_26}
use Rattle.reduction.proofs.Steps.{next_none, next_some}

limits_ok : (u : Term) {x : Unit {0}} → in_limits u ≡ ok x → InLimits u
limits_ok u e = tested (leb (size u) most_words) _ _ _ e λ s f.
    record { short = leb-true (size u) most_words s; nested = (too_deep_right u most_nesting 0).0 (nowhere_ok _ _ f) }

ok_limits : (u : Term) → InLimits u → in_limits u ≡ ok tt
ok_limits u h = pass _ _ (le-leb (size u) most_words h.short) (ap (nowhere nesting) ((too_deep_right u most_nesting 0).1 h.nested))

abbrev Told : ℕ → Term → Result Simplified → Type 0
Told k t (ok r) = Finished k t r
Told k t (refused m p) = Ended k t m p

-- one step before

finished_more : {k : ℕ} {t u : Term} {r : Simplified} → FirstStep t u → InLimits u → Finished k u r → Finished (suc k) t (one_before r)
finished_more f l h = record { taken = one_step f l h.taken; budget = omega (arith, h.budget); done = h.done }

ended_more : {k m p : ℕ} {t u : Term} → FirstStep t u → InLimits u → Ended k u m p → Ended (suc k) t m p
ended_more f l (ended_6 s b g n) = ended_6 (one_step f l s) (omega arith) g n
ended_more f l (ended_8 s b g n d) = ended_8 (one_step f l s) (omega arith) g n d
ended_more f l (ended_26 s g) = ended_26 (one_step f l s) g

-- a step whose result passes the limits
ended_here : {k m p : ℕ} {t u : Term} → FirstStep t u → in_limits u ≡ refused m p → Ended (suc k) t m p
ended_here {k} {m} {p} {t} {u} f e =
    failed (leb (size u) most_words) _ _ _ e (λ l n q. rw (n, q) (ended_6 no_step (omega arith) f (leb-false _ _ l))) λ l g.
    let (s, n) = nowhere_met nesting (too_deep most_nesting 0 u) g in
    rw n (ended_8 no_step (omega arith) f (leb-true _ _ l) ((too_deep_first u most_nesting 0 p).0 s))

told : (k : ℕ) (t : Term) → Told k t (simplify k t)
unfolding simplify
told zero t = go (next_step t) refl
  where
    go : (q : Option Term) → next_step t ≡ q → Told 0 t (at_budget t q)
    go none e = record { taken = no_step; budget = omega arith; done = (next_none t).0 e }
    go (some u) e = ended_26 no_step ((next_some t u).0 e)
told (suc k) t = go (told k) (next_step t) refl
  where
    next : (u : Term) → FirstStep t u → (l : Result (Unit {0})) → in_limits u ≡ l → (r : Result Simplified) → Told k u r →
        Told (suc k) t (l >> (r >>= λ r. ok (one_before r)))
    next u f (refused m p) e r h = ended_here f e
    next u f (ok x) e (ok r) h = finished_more f (limits_ok u e) h
    next u f (ok x) e (refused m p) h = ended_more f (limits_ok u e) h

    go : ((u : Term) → Told k u (simplify k u)) → (q : Option Term) → next_step t ≡ q → Told (suc k) t (from_step t q (simplify k))
    go h none e = record { taken = no_step; budget = omega arith; done = (next_none t).0 e }
    go h (some u) e = next u ((next_some t u).0 e) (in_limits u) refl (simplify k u) (h u)

-- and back

finds : {n : ℕ} {t u : Term} (k : ℕ) → FirstSteps n t u → next_step u ≡ none → n ≤ k → simplify k t ≡ ok (record { steps = n; result = u })
unfolding simplify
finds {t} zero no_step n l = ap (at_budget t) n
finds {t} (suc k) no_step n l = ap (λ q. from_step t q (simplify k)) n
finds zero (one_step f i s) n l = absurd (omega arith)
finds {t} (suc k) (one_step {u} f i s) n l =
    ap (λ q. from_step t q (simplify k)) ((next_some t u).1 f) ∙ then_is _ (ok_limits u i) (bind_is _ (finds k s n (omega arith)) refl)

-- what is refused after n steps is refused
ends : {n m p : ℕ} {t u : Term} (j k : ℕ) → FirstSteps n t u → simplify j u ≡ refused m p → k ≡ n + j → simplify k t ≡ refused m p
unfolding simplify
ends j k no_step e q = let z : j ≡ k = omega arith in rw z at e
ends j zero (one_step f i s) e q = absurd (omega arith)
ends {t} j (suc k) (one_step {u} f i s) e q =
    ap (λ q. from_step t q (simplify k)) ((next_some t u).1 f) ∙ then_is _ (ok_limits u i) (stop _ (ends j k s e (omega arith)))

first_ended : {m p : ℕ} {t u : Term} (j : ℕ) → FirstStep t u → in_limits u ≡ refused m p → simplify (suc j) t ≡ refused m p
unfolding simplify
first_ended {t} {u} j f e = ap (λ q. from_step t q (simplify j)) ((next_some t u).1 f) ∙ stop_then _ e

ended : {k m p : ℕ} {t : Term} → Ended k t m p → simplify k t ≡ refused m p
unfolding simplify
ended {k} (ended_6 {n} {v} s b g l) = ends (suc (k - suc n)) k s (first_ended (k - suc n) g (fail _ _ _ (lt-leb (size v) most_words l))) (omega arith)
ended {k} (ended_8 {n} {p} {v} s b g l d) =
    ends (suc (k - suc n)) k s (first_ended (k - suc n) g
    (pass _ _ (le-leb (size v) most_words l) (ap (nowhere nesting) ((too_deep_first v most_nesting 0 p).1 d)))) (omega arith)
ended {k} (ended_26 {u} {v} s g) = ends 0 k s (ap (at_budget u) ((next_some u v).1 g)) (omega arith)

-- a result is given exactly where the steps end within the budget and the limits
pub simplify_right : (k : ℕ) (t : Term) (r : Simplified) → (simplify k t ≡ ok r) ↔ Finished k t r
simplify_right k t r = (λ e. rw e at (told k t), λ h. finds k h.taken ((next_none r.result).1 h.done) h.budget)

-- and refused exactly where the work ends before
pub simplify_refused : (k : ℕ) (t : Term) (m p : ℕ) → (simplify k t ≡ refused m p) ↔ Ended k t m p
simplify_refused k t m p = (λ e. rw e at (told k t), ended)

-- every term on the way is within the limits
pub steps_in_limits : {n : ℕ} {t u : Term} → FirstSteps n t u → InLimits t → InLimits u
steps_in_limits no_step h = h
steps_in_limits (one_step f l s) h = steps_in_limits s l
