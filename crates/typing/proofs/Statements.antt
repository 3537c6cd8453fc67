-- Tests 6 to 12 of a proposition that is checked as a Sign.
use Prim.Native.Nat.{ℕ, ◌+◌, ◌≤◌, ◌<◌}
use native.Mathlib.Omega.{arith}
use mathlib.Core.Path.{◌≡◌, refl, sym, ap, subst, ◌∙◌}
use mathlib.Core.Bool.{true, false}
use mathlib.Core.List.{List, []}
use lib.ListN.{length}
use Rattle.logic.specs.Limits.{most_type_words, most_statement_words, most_statement_nesting}
use Rattle.logic.specs.Refusals.{condition_fails, type_too_long}
use Rattle.logic.specs.Result.{Result, ok, refused, ◌>>=◌, ◌>>◌, without_value}
use Rattle.logic.specs.Term.{Term, P, Name, Says, size}
use Rattle.logic.specs.Infer.{infer, same, condition, measured}
use Rattle.logic.specs.Check.{term_of, check_statement}
use Rattle.logic.proofs.Basics.{clash}
use Rattle.logic.proofs.Results.{pass, then_is}
use Rattle.logic.proofs.Stopped.{stop_then, fail}
use Rattle.logic.proofs.Words.{encode_size}
use Rattle.logic.proofs.Check.{term_of_right}
use Rattle.words.specs.Typed.{TypeAt}
use Rattle.rules.specs.Form.{Front}
use Rattle.std.specs.Prelude.{Result as Answer}
use Rattle.logic.specs.Answer.{answer as told}
use Rattle.logic.specs.declared.refusal.Refusal.{Refusal}
use Rattle.rules.specs.declared.typed.Typed.{Typed}
use Rattle.rules.proofs.Fronts.{measured_fits, measured_long, typed_by, refused_by}
use Rattle.typing.specs.Check.{typed_term, Judged}

module _ (Σ : List Term) (a : ℕ) where
  -- the tests that are left, of the proposition q of the type s
  abbrev pub statement_type : Term → Term → Result Term
  statement_type q s = condition 0 (same s P) >> (measured 0 (Says (Name a) q) >> ok q)

  -- a refusal is passed on
  passed_on : (r : Result Term) (m p : ℕ) → (r >>= λ t. infer Σ [] 0 t) ≡ refused m p → (r >>= λ q. infer Σ [] 0 q >>= statement_type q) ≡ refused m p
  passed_on (ok q) m p e = ap (λ r. r >>= statement_type q) e
  passed_on (refused m' p') m p e = cc

  went_on : (r : Result Term) (A : Term) → (r >>= λ t. infer Σ [] 0 t) ≡ ok A
      → (q : Term) × (r ≡ ok q) × ((r >>= λ q. infer Σ [] 0 q >>= statement_type q) ≡ statement_type q A)
  went_on (ok q) A e = (q, refl, ap (λ r. r >>= statement_type q) e)
  went_on (refused m p) A e = absurd (clash (cc))

  -- a proposition of the type A, which stands at the front
  pub record TypedAs (ws new : List ℕ) (words : ℕ) : Type 0 where
    pub q : Term
    pub A : Term
    pub is : check_statement Σ a ws ≡ statement_type q A
    pub long : length ws ≡ size q
    pub type : TypeAt new 0 A
    pub type_words : words ≡ size A

  module _ (ws : List ℕ) {new : List ℕ} {r : Answer Typed Refusal} {end : ℕ}
      (J : Judged (typed_term Σ most_statement_words most_statement_nesting ws) end new r) where
    pub statement_refused : (m p : ℕ) → told r ≡ refused m p → refused m p ≡ without_value (check_statement Σ a ws)
    statement_refused m p q = sym (stop_then _ (passed_on (term_of most_statement_words most_statement_nesting ws) m p (refused_by r _ end J.answer m p q)))

    pub statement_typed : (t : Typed) → told r ≡ ok t → TypedAs ws new t.words
    statement_typed t q = typed_by r _ end J.answer t q λ A i w l.
        let (q, j, s) = went_on (term_of most_statement_words most_statement_nesting ws) A i in
        record {
          q = q;
          A = A;
          is = s;
          long = ap length ((term_of_right most_statement_words most_statement_nesting ws q).0 j).words ∙ encode_size q;
          type = subst (λ (x : Result Term). Front x new) i J.front;
          type_words = w;
        }

  module _ {ws new : List ℕ} {words : ℕ} (S : TypedAs ws new words) where
    pub no_proposition : false ≡ same S.A P → refused condition_fails 0 ≡ without_value (check_statement Σ a ws)
    no_proposition e = sym (stop_then _ (S.is ∙ fail _ 0 _ (sym e)))

    module _ (e : true ≡ same S.A P) where
      pub long_statement : most_type_words < length ws + 2 → refused type_too_long 0 ≡ without_value (check_statement Σ a ws)
      unfolding size
      long_statement l =
          let h : most_type_words < size (Says (Name a) S.q) = omega (arith, S.long) in
          sym (stop_then _ (S.is ∙ pass condition_fails 0 (sym e) (stop_then _ (measured_long 0 (Says (Name a) S.q) h))))

      pub short_statement : length ws + 2 ≤ most_type_words → ok tt ≡ without_value (check_statement Σ a ws)
      unfolding size
      short_statement l =
          let h : size (Says (Name a) S.q) ≤ most_type_words = omega (arith, S.long) in
          sym (then_is _ (S.is ∙ pass condition_fails 0 (sym e) (then_is _ (measured_fits 0 (Says (Name a) S.q) h) refl)) refl)
