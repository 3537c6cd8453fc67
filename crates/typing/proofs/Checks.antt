-- Tests 6 to 12 on a term's words, one after the other.
use Prim.Native.Nat.{ℕ, ◌+◌, ◌≤◌}
use native.Mathlib.Omega.{arith}
use mathlib.Core.Path.{◌≡◌, refl, sym, ap, subst, ◌∙◌}
use mathlib.Core.List.{List, []}
use lib.ListN.{length}
use Rattle.logic.specs.Limits.{most_nesting}
use Rattle.logic.specs.Result.{Result, ok, refused, without_value}
use Rattle.logic.specs.Term.{Term, size}
use Rattle.logic.specs.Scope.{no_binder}
use Rattle.logic.specs.Infer.{infer}
use Rattle.logic.specs.Check.{term_of, WordsOf}
use Rattle.logic.proofs.Results.{bind_is, followed}
use Rattle.logic.proofs.Stopped.{stop, stopped_then, not_refused}
use Rattle.logic.proofs.Check.{term_of_right}
use Rattle.words.proofs.Places.{is_at, size_is}
use Rattle.rules.specs.Scope.{no_entries}
use Rattle.rules.specs.Form.{type_and_end}
use Rattle.typing.specs.Derive.{Derived, SubjectAt}
use Rattle.typing.specs.Check.{ConstantsOf, typed_term, Judged}
use Rattle.std.specs.Prelude.{Result as Answer}
use Rattle.logic.specs.Answer.{answer as told}
use Rattle.logic.specs.declared.refusal.Refusal.{Refusal}
use Rattle.rules.specs.declared.typed.Typed.{Typed}

-- the tests before the derivation refuse
pub refused_term : {r : Answer Typed Refusal} (Σ : List Term) (most deep : ℕ) (ws new : List ℕ) {m p : ℕ}
    → without_value (term_of most deep ws) ≡ refused m p → told r ≡ refused m p → Judged (typed_term Σ most deep ws) (length ws) new r
refused_term {r} Σ most deep ws new e q =
    let i = stop (λ t. infer Σ [] 0 t) (stopped_then (term_of most deep ws) _ e (λ i. i) λ x i j. absurd (not_refused j)) in
    subst (λ (x : Result Term). Judged x (length ws) new r) (sym i) (record { answer = q; front = tt })

-- the term that passed them
pub record TermIn (most deep : ℕ) (ws : List ℕ) : Type 0 where
  pub term : Term
  pub passed : term_of most deep ws ≡ ok term
  pub words : WordsOf most deep ws term

pub term_in : (most deep : ℕ) (ws : List ℕ) → without_value (term_of most deep ws) ≡ ok tt → TermIn most deep ws
term_in most deep ws e = followed (term_of most deep ws) _ e λ t i j. record { term = t; passed = i; words = (term_of_right most deep ws t).0 i }

-- with no binders, a term that is not too deep is ready
pub ready_term : (sig table proof ws : List ℕ) (most deep : ℕ) (Σ : List Term) (t : Term) → ConstantsOf sig table Σ → WordsOf most deep proof t
    → deep ≤ most_nesting → SubjectAt sig table proof ws 0 0 0 deep Σ [] t
ready_term sig table proof ws most deep Σ t C w l = record {
  declared = C.declared;
  signature = C.signature;
  binders = no_entries;
  context = no_binder;
  here = is_at (record { plain = w.plain; words = w.words });
  deep = w.nested;
  few = omega arith;
}

-- the type of a term that passed is that of its derivation
pub judged_term : (Σ : List Term) (most deep : ℕ) (ws old new : List ℕ) (T : TermIn most deep ws) (r : Answer Typed Refusal) →
    Derived (infer Σ [] 0 T.term) (0 + size T.term) 0 old new r → Judged (typed_term Σ most deep ws) (length ws) new r
judged_term Σ most deep ws old new T r d =
    let w = T.words in
    let n : 0 + size T.term ≡ length ws = omega (arith, size_is ws T.term (record { plain = w.plain; words = w.words })) in
    let e : typed_term Σ most deep ws ≡ infer Σ [] 0 T.term = bind_is (λ t. infer Σ [] 0 t) T.passed refl in
    subst (λ (x : Result Term). Judged x (length ws) new r) (sym e)
    (record { answer = d.answer ∙ ap (type_and_end (infer Σ [] 0 T.term)) n; front = d.front })
