-- A turn of the loop that takes steps: what is left of the budget is spent on the term that stands in front by now.
use Prim.Native.Nat.{ℕ, zero, suc, ◌+◌, ◌-◌, ◌≤◌}
use native.Mathlib.Omega.{arith}
use mathlib.Core.Path.{◌≡◌, refl, sym, ap, subst, ◌∙◌}
use mathlib.Core.List.{List, [], ◌∷◌, ◌++◌, append-nil}
use mathlib.Core.Option.{Option, some, none}
use Rattle.std.specs.Prelude.{Some, None}
use Rattle.std.specs.Prelude.{Option as Maybe}
use Rattle.std.proofs.lemmas.Option.{none-some, same_Some}
use lib.Dec.{ltb, leb}
use lib.ListN.{length, take, drop}
use lib.Seq.{take-length}
use borrow.Author.Tests.{leb-true, ltb-true, lt-ltb}
use Rattle.logic.specs.Limits.{most_words}
use Rattle.logic.specs.Refusals.{step_remains}
use Rattle.logic.specs.Result.{Result, ok, refused, ◌>>=◌, ◌>>◌}
use Rattle.logic.specs.Term.{Term, size}
use Rattle.logic.specs.Typing.{Has}
use Rattle.logic.specs.Reading.{Plain}
use Rattle.logic.proofs.Results.{ok_inj, bound, tested, followed, bind_is, pass}
use Rattle.logic.proofs.Stopped.{not_mapped, stop}
use Rattle.logic.proofs.SubjectReduction.{subject_reduction}
use Rattle.words.specs.Place.{At}
use Rattle.words.proofs.Places.{at_end}
use Rattle.reduction.specs.Steps.{next_step}
use Rattle.reduction.specs.Simplify.{Simplified, in_limits, unstepped, one_before, at_budget, from_step, simplify}
use Rattle.reduction.specs.Call.{fitting_result, simplify_into}
use Rattle.reduction.proofs.Steps.{next_some}
use Rattle.reduction.proofs.Types.{step_plain}
use Rattle.steps.proofs.StepWords.{unique_at}
use Rattle.simplify.specs.Turn.{Turnable, turned, words_of, TurnedTo}
use Rattle.simplify.specs.Answers.{Subject}

-- ---- the definition, a turn at a time

-- what follows a turn
abbrev follows : (left : ℕ) → Term → Result (Option Term) → Result Simplified
follows left t (ok none) = ok (unstepped t)
follows left t (ok (some u)) = simplify (left - 1) u >>= λ r. ok (one_before r)
follows left t (refused m p) = refused m p

simplify_turn : (left : ℕ) (t : Term) → simplify left t ≡ follows left t (turned left (next_step t))
unfolding simplify
simplify_turn zero t = go (next_step t)
  where
    go : (q : Option Term) → at_budget t q ≡ follows 0 t (turned 0 q)
    go none = refl
    go (some u) = refl
simplify_turn (suc k) t = go (next_step t)
  where
    limited : (u : Term) (o : Result (Unit {0})) → (o >> (simplify k u >>= λ r. ok (one_before r))) ≡ follows (suc k) t (o >> ok (some u))
    limited u (ok x) = let e : k ≡ suc k - 1 = omega arith in ap (λ (n : ℕ). simplify n u >>= λ r. ok (one_before r)) e
    limited u (refused m p) = refl

    go : (q : Option Term) → from_step t q (simplify k) ≡ follows (suc k) t (turned (suc k) q)
    go none = refl
    go (some u) = limited u (in_limits u) ∙ ap (follows (suc k) t) (sym (pass step_remains 0 (lt-ltb 0 (suc k) (omega arith)) refl))

-- what follows after so many steps
abbrev after_steps : ℕ → Result Simplified → Result Simplified
after_steps k o = o >>= λ s. ok (record { steps = k + s.steps; result = s.result })

no_steps : (k : ℕ) (o : Result Simplified) → k ≡ 0 → o ≡ after_steps k o
no_steps k (ok s) e = let i : s.steps ≡ k + s.steps = omega arith in ap (λ n. ok (record { steps = n; result = s.result })) i
no_steps k (refused m p) e = refl

one_more : (k n : ℕ) (o : Result Simplified) → n ≡ k + 1 → after_steps k (o >>= λ r. ok (one_before r)) ≡ after_steps n o
one_more k n (ok s) e = let i : k + suc s.steps ≡ n + s.steps = omega arith in ap (λ x. ok (record { steps = x; result = s.result })) i
one_more k n (refused m p) e = refl

-- ---- the term that a step gives is typed, and has words

module _ {ws : List ℕ} {n : ℕ} (s : Subject ws n) (u : Term) (e : next_step s.term ≡ some u) where
  step_typed : Has s.Σ [] u s.type
  step_typed = subject_reduction s.Σ s.signature ((next_some s.term u).0 e).taken s.typed

  pub step_has_words : size u ≤ most_words → Plain u
  step_has_words l = step_plain ((next_some s.term u).0 e).taken step_typed (omega arith) s.here.plain

-- ---- turns

-- the state of the loop: `left` of the budget's steps may still be taken, of a term that stands in front of ws
pub record StepTurn (start : List ℕ) (budget : ℕ) (ws : List ℕ) (n left : ℕ) : Type 0 where
  pub subject : Subject ws n
  pub within : left ≤ budget
  pub so_far : (t : Term) → At start 0 t → simplify budget t ≡ after_steps (budget - left) (simplify left subject.term)

pub first_turn : {ws : List ℕ} {n : ℕ} (budget : ℕ) → Subject ws n → StepTurn ws budget ws n budget
first_turn budget s = record {
  subject = s;
  within = omega arith;
  so_far = λ t h. ap (simplify budget) (unique_at h s.here) ∙ no_steps (budget - budget) (simplify budget s.term) (omega arith);
}

-- a step was taken
record Took (left : ℕ) (q : Option Term) (m : ℕ) (new : List ℕ) : Type 0 where
  pub u : Term
  pub is : turned left q ≡ ok (some u)
  pub step : q ≡ some u
  pub some_left : 1 ≤ left
  pub small : size u ≤ most_words
  pub count : m ≡ size u
  pub here : At new 0 u

took : (left : ℕ) (q : Option Term) {r : Result (Maybe ℕ)} {m : ℕ} {new : List ℕ} → TurnedTo (turned left q) new r → r ≡ ok (Some m) → Took left q m new
took left none k e = absurd (none-some _ (ok_inj (sym k.answer ∙ e)))
took left (some u) {m = m} {new} k e = bound (turned left (some u)) _ (sym k.answer ∙ e) λ v i j.
    tested (ltb 0 left) step_remains 0 _ i λ b i₁. followed (in_limits u) _ i₁ λ x l i₂.
    tested (leb (size u) most_words) _ _ _ l λ w _.
    let same = ok_inj i₂ in
    let is = i ∙ ap ok (sym same) in
    let b = ltb-true 0 left b in
    record {
      u = u;
      is = is;
      step = refl;
      some_left = omega arith;
      small = leb-true (size u) most_words w;
      count = same_Some _ _ (ok_inj (sym j ∙ ap (λ y. ok (words_of y)) (sym same)));
      here = k.front u is;
    }

module _ {start : List ℕ} {budget : ℕ} {ws : List ℕ} {n left : ℕ} (T : StepTurn start budget ws n left) where
  abbrev turn_of : Result (Option Term)
  turn_of = turned left (next_step T.subject.term)

  -- the definition, behind this turn
  by_turn : {o : Result (Option Term)} (t : Term) → At start 0 t → turn_of ≡ o →
      simplify budget t ≡ after_steps (budget - left) (follows left T.subject.term o)
  by_turn t h e = T.so_far t h ∙ ap (after_steps (budget - left)) (simplify_turn left T.subject.term ∙ ap (follows left T.subject.term) e)

  module _ {new : List ℕ} {r : Result (Maybe ℕ)} (k : TurnedTo turn_of new r) where
    -- a step was taken
    module _ {m : ℕ} (e : r ≡ ok (Some m)) where
      pub some_left : 1 ≤ left
      some_left = (took left (next_step T.subject.term) k e).some_left

      pub next_turn : StepTurn start budget new m (left - 1)
      next_turn =
          let s = T.subject in
          let f = took left (next_step s.term) k e in
          record {
            subject = record {
              term = f.u;
              here = f.here;
              count = f.count;
              short = f.small;
              Σ = s.Σ;
              signature = s.signature;
              type = s.type;
              typed = step_typed s f.u f.step;
            };
            within = omega (arith, T.within);
            so_far = λ t h. by_turn t h f.is
                ∙ one_more (budget - left) (budget - (left - 1)) (simplify (left - 1) f.u) (omega (arith, T.within, f.some_left));
          }

    -- none is left: this is the result
    pub last_turn : r ≡ ok None → (room : ℕ) (t : Term) → At start 0 t →
        simplify_into budget room t ≡ fitting_result room (record { steps = budget - left; result = T.subject.term })
    last_turn e room t h = bound turn_of _ (sym k.answer ∙ e) λ v i j.
        let z : budget - left + 0 ≡ budget - left = omega arith in
        bind_is (fitting_result room) (by_turn t h (i ∙ ap ok (no_words v (ok_inj j))))
        (ap (λ (x : ℕ). fitting_result room (record { steps = x; result = T.subject.term })) z)
      where
        no_words : (v : Option Term) → words_of v ≡ None → v ≡ none
        no_words none e = refl
        no_words (some u) e = absurd (none-some _ (sym e))

    -- the turn was refused
    pub refused_turn : (m p : ℕ) → r ≡ refused m p → (room : ℕ) (t : Term) → At start 0 t → simplify_into budget room t ≡ refused m p
    refused_turn m p e room t h = stop (fitting_result room) (by_turn t h (not_mapped words_of turn_of (sym k.answer ∙ e)))

-- ---- the loop

-- both lists have just as many words as a term may have, and the output is as it was
pub record Looping (start out : List ℕ) (budget : ℕ) (from into output : List ℕ) (n left : ℕ) : Type 0 where
  pub turn : StepTurn start budget from n left
  pub just : length from ≡ most_words
  pub just_other : length into ≡ most_words
  pub same_output : output ≡ out

pub turnable : {start : List ℕ} {budget : ℕ} {ws : List ℕ} {n left room : ℕ} → StepTurn start budget ws n left → room ≡ most_words → Turnable ws n room
turnable T e =
    let s = T.subject in
    record { term = s.term; here = s.here; count = s.count; short = s.short; plain = λ u i l. step_has_words s u i l; just = e }

-- the words of the term are within the list
pub term_within : {start : List ℕ} {budget : ℕ} {ws : List ℕ} {n left : ℕ} → StepTurn start budget ws n left → n ≤ length ws
term_within T = let l = at_end T.subject.here in omega (arith, T.subject.count)

-- what is lent of a list is the whole of it
pub lent_turn : {start : List ℕ} {budget : ℕ} {ws : List ℕ} {n left : ℕ} → StepTurn start budget ws n left →
    StepTurn start budget (take (length ws) ws) n left
lent_turn {start} {budget} {ws} {n} {left} T = subst (λ l. StepTurn start budget l n left) (sym (take-length ws)) T

drop_whole : (ws : List ℕ) → drop (length ws) ws ≡ []
drop_whole [] = refl
drop_whole (w ∷ ws) = drop_whole ws

-- behind a turn the two lists change places
pub changed : {start out from into output new x y : List ℕ} {budget n left m l : ℕ} → Looping start out budget from into output n left →
    StepTurn start budget new m l → length new ≡ length into → x ≡ new ++ drop (length into) into → y ≡ from → Looping start out budget x y output m l
changed {start} {from = from} {into} {new = new} {budget = budget} {m = m} {l} L T k e f =
    let g : new ++ drop (length into) into ≡ new = ap (λ (r : List ℕ). new ++ r) (drop_whole into) ∙ append-nil new in
    record {
      turn = subst (λ z. StepTurn start budget z m l) (sym (e ∙ g)) T;
      just = ap length (e ∙ g) ∙ k ∙ L.just_other;
      just_other = ap length f ∙ L.just;
      same_output = L.same_output;
    }
