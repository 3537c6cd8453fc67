-- What the call answers and leaves in the output, test by test.
use Prim.Native.Nat.{ℕ, ◌+◌, ◌≤◌, ◌<◌}
use native.Mathlib.Omega.{arith}
use mathlib.Core.Path.{◌≡◌, refl, sym, ap, ap₂, subst, ◌∙◌}
use mathlib.Core.List.{List, ◌++◌}
use lib.ListN.{length, take, drop, length-append, length-drop}
use borrow.Author.Tests.{le-leb, lt-leb}
use Rattle.std.specs.Prelude.{Result as Answer}
use Rattle.logic.specs.Answer.{answer}
use Rattle.logic.specs.Limits.{most_words}
use Rattle.logic.specs.declared.refusal.Refusal.{Refusal}
use Rattle.logic.specs.Refusals.{output_short}
use Rattle.logic.specs.Result.{Result, ok, refused}
use Rattle.logic.specs.Term.{Term, encode, size}
use Rattle.logic.proofs.Results.{pass}
use Rattle.logic.proofs.Stopped.{stop_then, fail}
use Rattle.logic.proofs.Words.{encode_size}
use Rattle.words.specs.Place.{At}
use Rattle.words.proofs.Places.{at_part, size_is}
use Rattle.reduction.specs.Simplify.{Simplified}
use Rattle.reduction.specs.Call.{fitting_result, simplify_into, simplify_call, after_simplify}
use Rattle.reduction.proofs.Refuses.{from_check}
use Rattle.rules.specs.declared.typed.Typed.{Typed}
use Rattle.typing.specs.Check.{Judged}
use Rattle.register.specs.Calls.{Lent, check_call}
use Rattle.register.specs.Succeeds.{Checkable}
use Rattle.register.proofs.Shared.{signature_of}
use Rattle.register.proofs.Succeeds.{demand2}
use Rattle.shared_tests.proofs.OwnTests.{type_found}
use Rattle.simplify.specs.Answers.{Subject, SimplifiedAs, counts_of}
use Rattle.simplify.specs.declared.reduce.Simplified.{Simplified as Counts}

-- a refusal writes nothing
pub told_refused : {o : Result Simplified} {old : List ℕ} {m p : ℕ} (r : Result Counts) → o ≡ refused m p → r ≡ refused m p → SimplifiedAs o old old r
told_refused {old = old} r e f = record { answer = f ∙ sym (ap counts_of e); output = sym (ap (λ o. after_simplify o old) e) }

-- ---- no step is left: t is the result, behind so many steps, if there is room

module _ {o : Result Simplified} (steps : ℕ) (old : List ℕ) (t : Term) (is : o ≡ fitting_result (length old) (record { steps = steps; result = t })) where
  pub result_short : (r : Result Counts) → length old < size t → r ≡ refused output_short 0 → SimplifiedAs o old old r
  result_short r l = told_refused r (is ∙ fail _ _ _ (lt-leb (size t) (length old) l))

  pub result_written : (n : ℕ) {from front : List ℕ} → At from 0 t → n ≡ size t → n ≤ length old → front ≡ take n from →
      SimplifiedAs o old (front ++ drop n old) (ok (record { steps = steps; words = n }))
  result_written n {from} {front} h c l w =
      let f = is ∙ pass _ _ (le-leb (size t) (length old) (omega arith)) refl in
      let x : front ≡ encode t = w ∙ ap (λ (k : ℕ). take k from) c ∙ at_part h in
      let z : n ≡ 0 + length (encode t) = omega (arith, encode_size t) in
      record {
        answer = ap (λ (x : ℕ). ok (record { steps = steps; words = x })) c ∙ sym (ap counts_of f);
        output = ap₂ (λ (l : List ℕ) (k : ℕ). l ++ drop k old) x z ∙ sym (ap (λ o. after_simplify o old) f);
      }

-- ---- check's tests

-- the words check
pub record CheckPassed (l : Lent) (reg : List ℕ) (day : ℕ) (ws : List ℕ) : Type 0 where
  pub type : Term
  pub checked : Checkable l reg day ws type

pub check_passed : {l : Lent} {reg : List ℕ} {day : ℕ} {ws new : List ℕ} {end : ℕ} {t : Typed} (r : Answer Typed Refusal) →
    Judged (check_call l reg day ws) end new r → answer r ≡ ok t → CheckPassed l reg day ws
check_passed {l} {reg} {day} {ws} {t = t} r J q =
    let f = type_found (check_call l reg day ws) _ _ r t J q in
    record { type = f.type; checked = (demand2.checks l reg day ws f.type).0 f.is }

module _ (l : Lent) (reg : List ℕ) (day : ℕ) (ws : List ℕ) (budget : ℕ) (old : List ℕ) where
  pub not_checked : {m p : ℕ} (x : Result Counts) → check_call l reg day ws ≡ refused m p → x ≡ refused m p →
      SimplifiedAs (simplify_call l reg day ws budget (length old)) old old x
  not_checked x e = told_refused x (stop_then _ e)

  pub simplified : {A : Term} (h : Checkable l reg day ws A) {new : List ℕ} {x : Result Counts} →
      SimplifiedAs (simplify_into budget (length old) h.t) old new x → SimplifiedAs (simplify_call l reg day ws budget (length old)) old new x
  simplified h {new} {x} s = subst (λ o. SimplifiedAs o old new x) (sym (from_check l reg day ws budget (length old) h refl)) s

-- ---- the term, copied into a list

pub filled : (front old : List ℕ) (n : ℕ) {m : ℕ} → length front ≡ n → length old ≡ m → n ≤ m → length (front ++ drop n old) ≡ m
filled front old n e f l = simp (length-append, length-drop) (omega arith)

module _ {l : Lent} {reg : List ℕ} {day : ℕ} {ws : List ℕ} {A : Term} (h : Checkable l reg day ws A) where
  pub term_short : length ws ≤ most_words
  term_short = h.passes.term.not_more

  pub term_at : {front : List ℕ} (rest : List ℕ) → front ≡ ws → At (front ++ rest) 0 h.t
  term_at rest e = record { plain = h.passes.term.plain; rest = rest; words = ap (λ (l : List ℕ). l ++ rest) (e ∙ h.passes.term.words) }

  pub subject_of : {front : List ℕ} (rest : List ℕ) → front ≡ ws → Subject (front ++ rest) (length ws)
  subject_of rest e =
      let z = size_is ws h.t (record { plain = h.passes.term.plain; words = h.passes.term.words }) in
      record {
        term = h.t;
        here = term_at rest e;
        count = z;
        short = omega (arith, term_short);
        Σ = h.Σ;
        signature = signature_of h.ready;
        type = A;
        typed = h.passes.derivation;
      }
