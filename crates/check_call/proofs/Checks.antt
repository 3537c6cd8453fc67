-- Check: one law for each return, and what is handed back.
use Prim.Native.Nat.{ℕ}
use mathlib.Core.Path.{◌≡◌, sym, ap, ap₂, subst, ◌∙◌}
use mathlib.Core.List.{List}
use lib.ListN.{take}
use lib.Seq.{take_at}
use Rattle.std.proofs.Common.{rules}
use Rattle.std.specs.Prelude.{Ok, Err, IsErr, IfErr}
use Rattle.std.specs.Result.{IsErrAnd}
use Rattle.std.specs.Prelude.{Result as Answer}
use Rattle.logic.specs.Answer.{answer}
use Rattle.logic.specs.Limits.{most_words, most_nesting}
use Rattle.logic.specs.Result.{Result, ok, refused, ◌>>=◌, ◌>>◌}
use Rattle.logic.specs.Term.{Term, encode, size}
use Rattle.logic.specs.declared.refusal.Refusal.{Refusal}
use Rattle.logic.proofs.Words.{encode_size}
use Rattle.rules.specs.declared.typed.Typed.{Typed}
use Rattle.typing.specs.Check.{typed_term, Judged}
use Rattle.register.specs.Calls.{Lent, Holding, view, outline_of, signs_held, check_own, check_call}
use Rattle.check_call.specs.Answers.{TypeIs, RefusedBy}
use Rattle.shared_tests.specs.Shared.{PreparedAs}
use Rattle.shared_tests.proofs.OwnTests.{not_prepared, PassedSo, typed_refused, type_found, TypedSo}

module _ (l : Lent) (reg table : List ℕ) (day : ℕ) (term : List ℕ) (r : Answer ℕ Refusal) (P : PreparedAs l reg table r) where
  pub check_not_prepared : {m p : ℕ} → answer r ≡ refused m p → check_call l reg day term ≡ refused m p
  check_not_prepared q = not_prepared l reg table r (check_own day term) P _ _ q

  module _ (count : ℕ) (so : PassedSo l reg table r (check_own day term) P count) where
    -- what is held on the day
    abbrev holds : Holding
    holds = (view l (outline_of reg) so.content so.Σ).holds day

    pub check_not_typed : {m p : ℕ} → typed_term so.Σ most_words most_nesting term ≡ refused m p → check_call l reg day term ≡ refused m p
    check_not_typed e = so.is ∙ ap (λ x. x >>= λ c. signs_held holds c.term >> ok c.type) (typed_refused so.Σ term _ _ e)

    module _ {A : Term} (T : TypedSo so.Σ term A) where
      check_is : check_call l reg day term ≡ (signs_held holds T.term >> ok A)
      check_is = so.is ∙ ap (λ x. x >>= λ c. signs_held holds c.term >> ok c.type) T.is

      pub check_missed : {m p : ℕ} → signs_held holds T.term ≡ refused m p → check_call l reg day term ≡ refused m p
      check_missed e = check_is ∙ ap (λ x. x >> ok A) e

      pub check_held : signs_held holds T.term ≡ ok tt → check_call l reg day term ≡ ok A
      check_held e = check_is ∙ ap (λ x. x >> ok A) e

-- ---- the answer

pub judged_refused : {m p : ℕ} (o : Result Term) (end : ℕ) (new : List ℕ) (r : Answer Typed Refusal)
    → o ≡ refused m p → answer r ≡ refused m p → Judged o end new r
judged_refused {m} {p} o end new r e f = subst (λ (x : Result Term). Judged x end new r) (sym e) (record { answer = f; front = tt })

-- a judgement of one result is one of another that is the same
pub judged_as : {A : Term} {o q : Result Term} {end : ℕ} {new : List ℕ} {r : Answer Typed Refusal}
    → o ≡ ok A → q ≡ ok A → Judged o end new r → Judged q end new r
judged_as {end} {new} {r} e f J = subst (λ (x : Result Term). Judged x end new r) (e ∙ sym f) J

-- ---- what is handed back

-- the refusal that is handed on is the call's
pub refused_by : {X : Type 0} (e : Refusal) (o : Result Term) (r : Answer X Refusal) → RefusedBy o e → IsErr r × IsErrAnd r (λ y. y ≡ e) → IfErr r (RefusedBy o)
refused_by e o (Ok x) h f = search rules
refused_by e o (Err y) h f = subst (RefusedBy o) (sym (f.1)) h

pub handed_type : {end : ℕ} {new : List ℕ} {r : Answer Typed Refusal} (o : Result Term) (t : Typed)
    → Judged o end new r → answer r ≡ ok t → TypeIs o (take t.words new)
handed_type {end} {new} {r} o t J q =
    let T = type_found o end new r t J q in
    let w : take t.words new ≡ encode T.type = ap₂ (λ (i : ℕ) (x : List ℕ). take i x) T.words_are T.front.words ∙ take_at
    (encode T.type) T.front.rest (size T.type) (encode_size T.type) in
    ap (λ x. x >>= λ A. ok (encode A)) T.is ∙ ap ok (sym w)
