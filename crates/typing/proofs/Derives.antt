-- The derivation of a term's type, step by step: what holds where each child has
-- its type, and what follows for the whole.
use Prim.Native.Nat.{ℕ, suc, ◌+◌, ◌-◌, ◌*◌, ◌≤◌}
use native.Mathlib.Omega.{arith}
use mathlib.Core.Path.{◌≡◌, refl, sym, ap, ap₂, subst, subst₂, ◌∙◌}
use mathlib.Core.List.{List, [], ◌∷◌, ◌++◌, append_assoc}
use mathlib.Core.Option.{Option, some, none}
use lib.ListN.{length, take, drop, get_or, get_elem?, length-append}
use lib.Seq.{take_at, drop_at, drop-drop, take-append-add, length-take-le}
use lib.IntN.{pos}
use Rattle.logic.specs.Limits.{most_words, most_type_words}
use Rattle.logic.specs.Refusals.{unbound_variable}
use Rattle.logic.specs.Result.{Result, ok, refused, ◌>>=◌, ◌>>◌, known}
use Rattle.logic.specs.Kind.{shape_class}
use Rattle.logic.specs.declared.word.Class.{Class}
use Rattle.logic.specs.declared.word.Class.TheVariants.{Atom as AtomClass, Variable, Sign}
use Rattle.logic.specs.Term.{Atom, Op, saysO, piO, lamO, appO, retO, bindO, Term, var, sign, node, Says, Pi, payload_of, atom_word, op_word}
use Rattle.logic.specs.Term.{encode, size}
use Rattle.logic.specs.Move.{raise, fill}
use Rattle.logic.specs.Typing.{Has, of_prop}
use Rattle.logic.specs.Scope.{Context, no_binder, binder}
use Rattle.logic.specs.Infer.{infer, measured, domain, Parts, parts}
use Rattle.logic.specs.Reading.{PlainAtom, Plain, PlainType, depth, word_shape}
use Rattle.logic.proofs.Results.{not_ok, ok_inj, followed, pass, require_ok}
use Rattle.logic.proofs.Stopped.{not_refused, stopped_then}
use Rattle.logic.proofs.Words.{encode_size, plain_in_range, children_plain}
use Rattle.logic.proofs.Range.{AllNamed, in_range_named, named_shift, plain_typed, inferred}
use Rattle.logic.proofs.Substitution.{weaken_one}
use Rattle.logic.proofs.Regularity.{said_types, stratify}
use Rattle.logic.proofs.Conditions.{measured_small, parts_some, domain_ok}
use Rattle.logic.proofs.Proposition.{same_yes}
use Rattle.logic.proofs.Soundness.{sound}
use Rattle.logic.proofs.Searches.{depth_pos}
use Rattle.words.specs.Place.{At}
use Rattle.words.specs.Typed.{TypeAt}
use Rattle.words.proofs.Places.{at_head, at_sign, at_left, at_right, at_payload}
use Rattle.moves.proofs.Cases.{NotLeaf, atom_case, variable_case, sign_case, node_case}
use Rattle.moves.proofs.Shifts.{size_shift}
use Rattle.rules.specs.Rule.{atom_type, variable_type, sign_type, first_child, second_child, ready, within, node_type}
use Rattle.rules.specs.Scope.{tail, scope_words, entry_head, Binders, no_entries, in_proof, in_workspace, binder_entry, Declared}
use Rattle.rules.specs.Form.{Front, TypeFormed, front_words, level_words}
use Rattle.typing.specs.Derive.{Derived, SubjectAt}
use Rattle.rules.specs.Variable.{Raises}
use Rattle.results.specs.Results.{Signs, First, Forms, Formable}
use Rattle.rules.specs.Enter.{Enters, keep_of, EntryKept, Entering}
use Rattle.rules.proofs.Fronts.{typed_by, refused_by}
use Rattle.std.specs.Prelude.{Result as Answer}
use Rattle.logic.specs.Answer.{answer as told}
use Rattle.logic.specs.declared.refusal.Refusal.{Refusal}
use Rattle.rules.specs.declared.typed.Typed.{Typed}
use Rattle.rules.specs.declared.enter.Entered.{Entered}
use Rattle.typing.proofs.Tails.{tail_kept, rest_of, whole_of, rest_tail, whole_tail, whole_length, whole_is}
use Rattle.typing.proofs.Uniform.{node_rule, uniform}

-- ---- what an answer tells

pub record Answered (o : Result Term) (end : ℕ) (new : List ℕ) (n e : ℕ) : Type 0 where
  pub type : Term
  pub is : o ≡ ok type
  pub words : n ≡ size type
  pub ends : e ≡ end
  pub front : TypeAt new 0 type

pub typed_is : {o : Result Term} {end used : ℕ} {old new : List ℕ} {r : Answer Typed Refusal} → Derived o end used old new r → (t : Typed) → told r ≡ ok t
    → Answered o end new t.words t.end
typed_is {o} {end} {new} {r} d t q =
    typed_by r o end d.answer t q λ A i w l. record { type = A; is = i; words = w; ends = l; front = subst (λ (x : Result Term). Front x new) i d.front }

pub refused_is : {o : Result Term} {end used : ℕ} {old new : List ℕ} {r : Answer Typed Refusal} {m p : ℕ} → Derived o end used old new r
    → told r ≡ refused m p → o ≡ refused m p
refused_is {o} {end} {r} d q = refused_by r o end d.answer _ _ q

-- a rule that wrote only the front left the words kept at the end
pub from_front : {o : Result Term} {end used : ℕ} {old new : List ℕ} {r : Answer Typed Refusal} → length new ≡ length old
    → used + front_words ≤ length old → TypeFormed o end old new r → Derived o end used old new r
from_front {used} {old} {new} e l f = record { answer = f.answer; front = f.front; kept = tail_kept used front_words old new e f.rest (omega arith) }

pub refused_derived : {o : Result Term} {end used : ℕ} {old new : List ℕ} {r : Answer Typed Refusal} {m p : ℕ} → o ≡ refused m p → told r ≡ refused m p
    → tail used new ≡ tail used old → Derived o end used old new r
refused_derived {end} {used} {old} {new} {r} e q k =
    subst (λ (x : Result Term). Derived x end used old new r) (sym e) (record { answer = q; front = tt; kept = k })

-- what stands behind an entry
tail_behind : (used kept : ℕ) (x e y : List ℕ) → kept ≡ used + length e → kept ≤ length x → tail kept x ≡ e ++ y → tail used x ≡ y
tail_behind used kept x e y k l h =
    let q : length x - used ≡ length x - kept + length e = omega arith in
    ap (λ (i : ℕ). drop i x) q ∙ sym (drop-drop (length e) (length x - kept) x) ∙ ap (drop (length e)) h ∙ drop_at e y (length e) refl

-- a type that stood at the front of a part stands behind what is before the part
type_behind : (n : ℕ) (ws part : List ℕ) (A : Term) → n ≤ length ws → TypeAt part 0 A → TypeAt (whole_of n ws part) n A
type_behind n ws part A l h = record {
  plain = h.plain;
  rest = h.rest;
  words = ap (drop n) (whole_is n ws part) ∙ drop_at (take n ws) part n (length-take-le n ws l) ∙ h.words;
}

-- and a type before it stays
type_before : (n : ℕ) (ws part : List ℕ) (A : Term) → n ≡ size A → TypeAt ws 0 A → TypeAt (whole_of n ws part) 0 A
type_before n ws part A e h = record {
  plain = h.plain;
  rest = part;
  words =
      whole_is n ws part ∙ ap (λ (x : List ℕ). x ++ part) (ap₂ (λ (i : ℕ) (x : List ℕ). take i x) e h.words
      ∙ take_at (encode A) h.rest (size A) (encode_size A));
}

-- ---- the names in scope

named_list : (Σ : List Term) → ((n : ℕ) (A : Term) → get_elem? Σ n ≡ some A → Plain A) → AllNamed Σ
named_list [] f = tt
named_list (A ∷ Σ) f = (in_range_named A (plain_in_range A (f 0 A refl)), named_list Σ (λ n B e. f (suc n) B e))

pub declared_named : (sig table : List ℕ) (Σ : List Term) → Declared sig table Σ → AllNamed Σ
declared_named sig table Σ d = named_list Σ (λ n A e. (d.type n A e).plain)

pub binders_named : {proof h : List ℕ} {Γ : List Term} → Binders proof h Γ → AllNamed Γ
binders_named no_entries = tt
binders_named (in_proof {A} a b) = (in_range_named A (plain_in_range A a.plain), binders_named b)
binders_named (in_workspace {A} x p l b) = (in_range_named A (plain_in_range A p), binders_named b)

-- what the check gives for a term that is ready
type_of : {sig table proof ws : List ℕ} {floor used at left : ℕ} {Σ Γ : List Term} {t A : Term} → SubjectAt sig table proof ws floor used at left Σ Γ t
    → infer Σ Γ at t ≡ ok A → PlainType A × (size A ≤ most_type_words)
type_of {sig} {table} {at} {Σ} {Γ} {t} r e =
    inferred r.signature (declared_named sig table Σ r.declared) r.context (binders_named r.binders) (omega (arith, r.few)) t at r.here.plain e

-- ---- a Sign

pub sign_ready : {sig table proof ws : List ℕ} {floor used at left : ℕ} {Σ Γ : List Term} {n : ℕ} {q : Term}
    → SubjectAt sig table proof ws floor used at left Σ Γ (sign n q) → SubjectAt sig table proof ws used used (at + 1) (left - 1) Σ [] q
unfolding depth
sign_ready {proof} {ws} {used} r = record {
  declared = r.declared;
  signature = r.signature;
  binders = let e : used - used ≡ 0 = omega arith in subst (λ (i : ℕ). Binders proof (take i (tail used ws)) []) (sym e) no_entries;
  context = no_binder;
  here = at_sign r.here;
  deep = omega (arith, r.deep);
  few = omega (arith, r.few);
}

-- ---- the children of a node

-- the first child's type is derived
pub record BetweenChildren (proof ws mid : List ℕ) (used at next n : ℕ) (Σ Γ : List Term) (o : Op) (a : Term) : Type 0 where
  pub type : Term
  pub is : infer Σ Γ (at + 1) a ≡ ok type
  pub plain : PlainType type
  pub small : size type ≤ most_type_words
  pub enters : Enters proof mid at next n o a type
  pub kept : tail used mid ≡ tail used ws

-- the test on it passed, and the second child's derivation is lent what is left
pub record Inside (mid mid2 : List ℕ) (used at n keep kept : ℕ) (o : Op) (a A : Term) : Type 0 where
  pub passed : ready o at A ≡ ok tt
  pub keep_is : keep ≡ keep_of o n
  pub kept_is : kept ≡ used + length (binder_entry o at a A)
  pub entered : tail kept mid2 ≡ binder_entry o at a A ++ tail used mid
  pub front : TypeAt mid2 0 A

inside_node : {o : Op} {at : ℕ} {a A : Term} {n used : ℕ} {mid mid2 : List ℕ} {r : Answer Entered Refusal} → Entering o at a A n used mid mid2 r
    → (g : Entered) → told r ≡ ok g → Inside mid mid2 used at n g.keep g.used o a A
inside_node {o} {at} {a} {A} {n} {used} {mid} {mid2} e g q = followed (ready o at A) _ (sym e.answer ∙ q) λ u i j.
    let v : ◌≡◌ {A = Entered} (record { keep = keep_of o n; used = used + length (binder_entry o at a A) }) g = ok_inj j in
    let k : g.used ≡ used + length (binder_entry o at a A) = sym (ap (λ (x : Entered). x.used) v) in
    let w = subst (λ (x : Result (Unit {0})). EntryKept x o at a A used mid mid2) i e.kept in
    record { passed = i; keep_is = sym (ap (λ (x : Entered). x.keep) v); kept_is = k; entered = ap (λ (i : ℕ). tail i mid2) k ∙ w.0; front = w.1 }

-- a test that fails is refused, and nothing is written
record Failed (mid mid2 : List ℕ) (o : Op) (at : ℕ) (A : Term) (m p : ℕ) : Type 0 where
  fails : ready o at A ≡ refused m p
  unchanged : mid2 ≡ mid

failed : {o : Op} {at : ℕ} {a A : Term} {n used : ℕ} {mid mid2 : List ℕ} {r : Answer Entered Refusal} {m p : ℕ} → Entering o at a A n used mid mid2 r
    → told r ≡ refused m p → Failed mid mid2 o at A m p
failed {o} {at} {a} {A} {n} {used} {mid} {mid2} e q = stopped_then (ready o at A) _ (sym e.answer ∙ q)
    (λ i. record { fails = i; unchanged = subst (λ (x : Result (Unit {0})). EntryKept x o at a A used mid mid2) i e.kept })
    λ u i j. absurd (not_refused j)

-- what the test says of the first child's type

known_some : {o : Op} (A : Term) (m at : ℕ) → (known m at (parts o A) >> ok (tt {0})) ≡ ok tt → A ≡ node o (first_child A) (second_child A)
known_some {o} A m at e = go (parts o A) refl e
  where
    go : (x : Option Parts) → parts o A ≡ x → (known m at x >> ok (tt {0})) ≡ ok tt → A ≡ node o (first_child A) (second_child A)
    go none e q = absurd (not_ok q)
    go (some p) e q = let h = parts_some o A e in h ∙ ap₂ (node o) (sym (ap first_child h)) (sym (ap second_child h))

pub ready_pi : (at : ℕ) (A : Term) → ready appO at A ≡ ok tt → A ≡ Pi (first_child A) (second_child A)
unfolding ready
ready_pi at A e = known_some A _ at e

pub ready_says : (at : ℕ) (A : Term) → ready bindO at A ≡ ok tt → A ≡ Says (first_child A) (second_child A)
unfolding ready
ready_says at A e = known_some A _ at e

-- the words of an entry
pub entry_short : (o : Op) (at : ℕ) (a A : Term) → size A ≤ most_type_words → ready o at A ≡ ok tt → length (binder_entry o at a A) ≤ level_words
unfolding size
entry_short saysO at a A s e = omega arith
entry_short piO at a A s e = omega arith
entry_short lamO at a A s e = omega arith
entry_short appO at a A s e = omega arith
entry_short retO at a A s e = omega arith
entry_short bindO at a A s e =
    let h : size A ≡ suc (size (first_child A) + size (second_child A)) = ap size (ready_says at A e) in
    let l = length-append (encode (raise 1 (first_child A))) (encode (second_child A)) in
    let x : length (encode (raise 1 (first_child A))) ≡ size (first_child A) = encode_size _ ∙ size_shift 0 _ (first_child A) in
    let y = encode_size (second_child A) in
    omega arith

-- the entry of a binder, before those of the others, is that of one binder more
pub binders_more : {proof h : List ℕ} {Γ : List Term} (o : Op) (at : ℕ) (a A : Term) → At proof (at + 1) a → PlainType A → ready o at A ≡ ok tt
    → Binders proof h Γ → Binders proof (binder_entry o at a A ++ h) (within o a A Γ)
unfolding size
binders_more saysO at a A i p e b = b
binders_more piO at a A i p e b = in_proof i b
binders_more lamO at a A i p e b = in_proof i b
binders_more appO at a A i p e b = b
binders_more retO at a A i p e b = b
binders_more {proof} {h} {Γ} bindO at a A i p e b =
    let says : A ≡ Says (first_child A) (second_child A) = ready_says at A e in
    let q : Plain (first_child A) × Plain (second_child A) = children_plain (subst PlainType says p) in
    let x : List ℕ = op_word saysO ∷ encode (raise 1 (first_child A)) in
    let l : length (encode (raise 1 (first_child A))) ≡ size (first_child A) = encode_size _ ∙ size_shift 0 _ (first_child A) in
    let s : size A ≡ suc (size (first_child A) + size (second_child A)) = ap size says in
    let n : entry_head + (length x + size (second_child A)) ≡ entry_head + size A = omega arith in
    subst (λ (w : List ℕ). Binders proof w (second_child A ∷ Γ))
    (ap₂ (λ (k : ℕ) (w : List ℕ). k ∷ 0 ∷ size (second_child A) ∷ (op_word saysO ∷ w)) n
    (sym (append_assoc (encode (raise 1 (first_child A))) (encode (second_child A)) h)))
    (in_workspace {s = 0} x q.1 (omega arith) b)

-- ---- what the check of a node is

module _ (Σ Γ : List Term) (at : ℕ) (o : Op) (a b : Term) where
  first_refused : (m p : ℕ) → infer Σ Γ (at + 1) a ≡ refused m p → infer Σ Γ at (node o a b) ≡ refused m p
  first_refused m p e = uniform Σ Γ at o a b ∙ ap (λ x. x >>= λ A. node_rule Σ Γ at o a b A) e

  module _ (A : Term) (is : infer Σ Γ (at + 1) a ≡ ok A) where
    ruled : infer Σ Γ at (node o a b) ≡ node_rule Σ Γ at o a b A
    ruled = uniform Σ Γ at o a b ∙ ap (λ x. x >>= λ A. node_rule Σ Γ at o a b A) is

    test_refused : (m p : ℕ) → ready o at A ≡ refused m p → infer Σ Γ at (node o a b) ≡ refused m p
    test_refused m p e = ruled ∙ ap (λ x. x >> (infer Σ (within o a A Γ) (at + 1 + size a) b >>= λ B. node_type o at a b A B)) e

    passed_test : ready o at A ≡ ok tt → infer Σ Γ at (node o a b) ≡ (infer Σ (within o a A Γ) (at + 1 + size a) b >>= λ B. node_type o at a b A B)
    passed_test e = ruled ∙ ap (λ x. x >> (infer Σ (within o a A Γ) (at + 1 + size a) b >>= λ B. node_type o at a b A B)) e

    module _ (passed : ready o at A ≡ ok tt) (next : ℕ) (next_is : next ≡ at + 1 + size a) where
      second_refused : (m p : ℕ) → infer Σ (within o a A Γ) next b ≡ refused m p → infer Σ Γ at (node o a b) ≡ refused m p
      second_refused m p e = passed_test passed ∙ ap (λ x. x >>= λ B. node_type o at a b A B) (ap (λ (i : ℕ). infer Σ (within o a A Γ) i b)
          (sym next_is) ∙ e)

      node_formed : (B : Term) → infer Σ (within o a A Γ) next b ≡ ok B → infer Σ Γ at (node o a b) ≡ node_type o at a b A B
      node_formed B e = passed_test passed ∙ ap (λ x. x >>= λ B. node_type o at a b A B) (ap (λ (i : ℕ). infer Σ (within o a A Γ) i b) (sym next_is) ∙ e)

-- what a derivation ensures
abbrev pub Derives : (sig table proof old : List ℕ) → (floor used at left : ℕ) → (new : List ℕ) → Answer Typed Refusal → Type 0
Derives sig table proof old floor used at left new r =
    (Σ Γ : List Term) → (t : Term) → SubjectAt sig table proof old floor used at left Σ Γ t → Derived (infer Σ Γ at t) (at + size t) used old new r

pub carried : {sig table proof old : List ℕ} {floor used at left : ℕ} {new new' : List ℕ} {r r' : Answer Typed Refusal} → new' ≡ new → r' ≡ r
    → Derives sig table proof old floor used at left new r → Derives sig table proof old floor used at left new' r'
carried {sig} {table} {proof} {old} {floor} {used} {at} {left} e q d = subst₂ (Derives sig table proof old floor used at left) (sym e) (sym q) d

module _ {sig table proof ws : List ℕ} {floor used at left : ℕ} {Σ Γ : List Term} {o : Op} {a b : Term}
    (R : SubjectAt sig table proof ws floor used at left Σ Γ (node o a b)) where
  pub first_ready : SubjectAt sig table proof ws floor used (at + 1) (left - 1) Σ Γ a
  unfolding depth
  first_ready = record {
    declared = R.declared;
    signature = R.signature;
    binders = R.binders;
    context = R.context;
    here = at_left R.here;
    deep = omega (arith, R.deep);
    few = omega (arith, R.few);
  }

  pub two_deep : 2 ≤ left
  unfolding depth
  two_deep = omega (arith, R.deep, depth_pos a)

  between_children : {mid : List ℕ} {r : Answer Typed Refusal} → Derives sig table proof ws floor used (at + 1) (left - 1) mid r → (t : Typed) → told r ≡ ok t
      → BetweenChildren proof ws mid used at t.end t.words Σ Γ o a
  between_children d t q =
      let D = d Σ Γ a first_ready in
      let A = typed_is D t q in
      let P = type_of first_ready A.is in
      record {
        type = A.type;
        is = A.is;
        plain = P.0;
        small = P.1;
        enters = record { head = at_head R.here; here = at_left R.here; next_is = A.ends; type = A.front; type_words = A.words };
        kept = D.kept;
      }

-- the first child of a node has its type, and what is kept for the second child and the result fits the workspace
pub record AtSecond (sig table proof ws mid mid2 : List ℕ) (floor used at left next n keep kept : ℕ) (Σ Γ : List Term) (o : Op) (a b : Term) : Type 0 where
  pub subject : SubjectAt sig table proof ws floor used at left Σ Γ (node o a b)
  pub between : BetweenChildren proof ws mid used at next n Σ Γ o a
  pub inside : Inside mid mid2 used at n keep kept o a between.type
  pub below : floor ≤ used
  pub same : length mid2 ≡ length ws
  pub room : used + left * level_words + front_words ≤ length ws

module _ {sig table proof ws mid : List ℕ} {floor used at left : ℕ} {Σ Γ : List Term} {o : Op} {a b : Term} (r : Answer Typed Refusal)
    (R : SubjectAt sig table proof ws floor used at left Σ Γ (node o a b)) (d : Derives sig table proof ws floor used (at + 1) (left - 1) mid r) where
  pub first_typed : (t : Typed) → told r ≡ ok t → BetweenChildren proof ws mid used at t.end t.words Σ Γ o a
  first_typed t q = between_children R d t q

  -- a refusal of the first child is the node's
  pub first_refusal : {s : Answer Typed Refusal} {m p : ℕ} → told r ≡ refused m p → told s ≡ refused m p
      → Derived (infer Σ Γ at (node o a b)) (at + size (node o a b)) used ws mid s
  first_refusal {m} {p} q e = let D = d Σ Γ a (first_ready R) in refused_derived (first_refused Σ Γ at o a b m p (refused_is D q)) e D.kept

  module _ {mid2 : List ℕ} {t : Typed} (x : Answer Entered Refusal) (f : (o : Op) (a A : Term) → Enters proof mid at t.end t.words o a A
      → Entering o at a A t.words used mid mid2 x) (q : told r ≡ ok t) where
    entering : Entering o at a (first_typed t q).type t.words used mid mid2 x
    entering = let B = first_typed t q in f o a B.type B.enters

    -- and one of the test
    pub test_refusal : {s : Answer Typed Refusal} {m p : ℕ} → told x ≡ refused m p → told s ≡ refused m p
        → Derived (infer Σ Γ at (node o a b)) (at + size (node o a b)) used ws mid2 s
    test_refusal {m} {p} y e =
        let B = first_typed t q in
        let F = failed entering y in
        refused_derived (test_refused Σ Γ at o a b B.type B.is m p F.fails) e (ap (tail used) F.unchanged ∙ B.kept)

    pub at_second : {g : Entered} → told x ≡ ok g → floor ≤ used → length mid2 ≡ length ws → used + left * level_words + front_words ≤ length ws
        → AtSecond sig table proof ws mid mid2 floor used at left t.end t.words g.keep g.used Σ Γ o a b
    at_second {g} y below same room =
        record { subject = R; between = first_typed t q; inside = inside_node entering g y; below = below; same = same; room = room }

module _ {sig table proof ws mid mid2 : List ℕ} {floor used at left next n keep kept : ℕ} {Σ Γ : List Term} {o : Op} {a b : Term}
    (W : AtSecond sig table proof ws mid mid2 floor used at left next n keep kept Σ Γ o a b) where
  abbrev R : SubjectAt sig table proof ws floor used at left Σ Γ (node o a b)
  R = W.subject

  abbrev B : BetweenChildren proof ws mid used at next n Σ Γ o a
  B = W.between

  abbrev I : Inside mid mid2 used at n keep kept o a W.between.type
  I = W.inside

  abbrev A : Term
  A = B.type

  first_has : Has Σ Γ a A
  first_has = (sound Σ R.signature a Γ (at + 1) R.context B.is).0

  -- a level's words, and those of the levels below it
  mul_level : (k : ℕ) → 2 ≤ k → level_words + level_words ≤ k * level_words
  mul_level k l = omega arith

  -- a level keeps a type at the front or an entry at the end
  pub level : keep + kept ≤ used + level_words
  level = go o I.keep_is I.kept_is (entry_short o at a A B.small I.passed)
    where
      go : (o : Op) → keep ≡ keep_of o n → kept ≡ used + length (binder_entry o at a A) → length (binder_entry o at a A) ≤ level_words
          → keep + kept ≤ used + level_words
      go saysO e f l = omega arith
      go piO e f l = omega arith
      go lamO e f l = omega arith
      go appO e f l = omega (arith, B.enters.type_words, B.small)
      go retO e f l = omega arith
      go bindO e f l = omega arith

  pub keep_fits : keep ≤ length mid2
  keep_fits = omega (arith, level, two_deep R, W.room, W.same)

  kept_here : tail kept (rest_of keep mid2) ≡ binder_entry o at a A ++ tail used ws
  kept_here =
      let l = level in let m = two_deep R in
      rest_tail keep kept mid2 (omega (arith, mul_level left (two_deep R))) ∙ I.entered ∙ ap (λ (x : List ℕ). binder_entry o at a A ++ x) B.kept

  scope_here : scope_words floor kept (rest_of keep mid2) ≡ binder_entry o at a A ++ scope_words floor used ws
  scope_here =
      let k = I.kept_is in
      let e : kept - floor ≡ length (binder_entry o at a A) + (used - floor) = omega arith in
      ap₂ (λ (i : ℕ) (x : List ℕ). take i x) e kept_here ∙ take-append-add (binder_entry o at a A) (tail used ws) (used - floor)

  context_here : Context Σ (within o a A Γ)
  unfolding ready
  context_here = go o I.passed
    where
      go : (o : Op) → ready o at A ≡ ok tt → Context Σ (within o a A Γ)
      go saysO e = R.context
      go piO e = binder R.context first_has (domain_ok A (require_ok (domain A) _ _ e))
      go lamO e = binder R.context first_has (domain_ok A (require_ok (domain A) _ _ e))
      go appO e = R.context
      go retO e = R.context
      go bindO e =
          binder R.context (said_types Σ R.signature (stratify Σ R.signature R.context (subst (Has Σ Γ a) (ready_says at A e) first_has))).1
          of_prop

  within_length : length (within o a A Γ) ≤ length Γ + 1
  within_length = go o
    where
      go : (o : Op) → length (within o a A Γ) ≤ length Γ + 1
      go saysO = omega arith
      go piO = omega arith
      go lamO = omega arith
      go appO = omega arith
      go retO = omega arith
      go bindO = omega arith

  pub second_ready : SubjectAt sig table proof (rest_of keep mid2) floor kept next (left - 1) Σ (within o a A Γ) b
  unfolding depth
  second_ready = record {
    declared = R.declared;
    signature = R.signature;
    binders =
        subst (λ (w : List ℕ). Binders proof w (within o a A Γ)) (sym scope_here)
        (binders_more o at a A B.enters.here B.plain I.passed R.binders);
    context = context_here;
    here = subst (λ (i : ℕ). At proof i b) (sym B.enters.next_is) (at_right R.here);
    deep = omega (arith, R.deep);
    few = omega (arith, R.few, within_length, two_deep R);
  }

  module _ {part : List ℕ} (r : Answer Typed Refusal) (same-part : length part ≡ length (rest_of keep mid2))
      (d : Derives sig table proof (rest_of keep mid2) floor kept next (left - 1) part r) where
    abbrev mid3 : List ℕ
    mid3 = whole_of keep mid2 part

    second_derived : Derived (infer Σ (within o a A Γ) next b) (next + size b) kept (rest_of keep mid2) part r
    second_derived = d Σ (within o a A Γ) b second_ready

    fits_level : keep + kept + front_words ≤ length mid2
    fits_level = omega (arith, level, two_deep R, mul_level left (two_deep R))

    kept_back : tail kept mid3 ≡ tail kept mid2
    kept_back = whole_tail keep kept mid2 part (omega (arith, fits_level)) same-part second_derived.kept

    length_back : length mid3 ≡ length ws
    length_back = whole_length keep mid2 part (omega (arith, fits_level)) same-part ∙ W.same

    used_back : tail used mid3 ≡ tail used ws
    used_back =
        tail_behind used kept mid3 (binder_entry o at a A) (tail used ws) I.kept_is (omega (arith, fits_level, length_back))
        (kept_back ∙ I.entered ∙ ap (λ (x : List ℕ). binder_entry o at a A ++ x) B.kept)

    pub second_refusal : {s : Answer Typed Refusal} {m p : ℕ} → told r ≡ refused m p → told s ≡ refused m p
        → Derived (infer Σ Γ at (node o a b)) (at + size (node o a b)) used ws mid3 s
    second_refusal {m} {p} q e =
        refused_derived (second_refused Σ Γ at o a b A B.is I.passed next B.enters.next_is m p (refused_is second_derived q)) e used_back

    module _ (t : Typed) (q : told r ≡ ok t) where
      pub second_type : Answered (infer Σ (within o a A Γ) next b) (next + size b) part t.words t.end
      second_type = typed_is second_derived t q

      abbrev C : Term
      C = second_type.type

      second_small : size C ≤ most_type_words
      second_small = (type_of second_ready second_type.is).1

      node_is : infer Σ Γ at (node o a b) ≡ node_type o at a b A C
      node_is = node_formed Σ Γ at o a b A B.is I.passed next B.enters.next_is C second_type.is

      node_plain : (X : Term) → node_type o at a b A C ≡ ok X → PlainType X
      node_plain X e = (type_of R (node_is ∙ e)).0

      -- the principal of a Says type is plain under one binder more
      principal : A ≡ Says (first_child A) (second_child A) → Plain (raise 1 (first_child A))
      unfolding size
      principal e =
          let h = said_types Σ R.signature (stratify Σ R.signature R.context (subst (Has Σ Γ a) e first_has)) in
          let p : Plain (first_child A) × Plain (second_child A) = children_plain (subst PlainType e B.plain) in
          let s : size A ≡ suc (size (first_child A) + size (second_child A)) = ap size e in
          plain_typed (weaken_one Σ R.signature (second_child A) h.0) (omega (arith, size_shift 0 (pos 1) (first_child A), B.small, R.few))
          (named_shift 0 (pos 1) (first_child A) (in_range_named (first_child A) (plain_in_range (first_child A) p.0)))

      first_here : First o mid3 b A C
      unfolding node_type
      first_here = go o I.keep_is I.passed node_plain
        where
          go : (o : Op) → keep ≡ keep_of o n → ready o at A ≡ ok tt → ((X : Term) → node_type o at a b A C ≡ ok X → PlainType X) → First o mid3 b A C
          go saysO k e f = tt
          go piO k e f = tt
          go lamO k e f = tt
          go appO k e f = (
            ready_pi at A e,
            type_before keep mid2 part A (k ∙ B.enters.type_words) I.front,
            λ y z. f (fill (second_child A) b) (pass _ at (same_yes y) (measured_small at z)),
          )
          go retO k e f = tt
          go bindO k e f = let x = ready_says at A e in (x, principal x)

      ends_here : t.end ≡ at + size (node o a b)
      unfolding size
      ends_here = omega (arith, second_type.ends, B.enters.next_is)

      pub forms_here : Forms proof mid3 kept at next n t.words t.end o a b A C
      forms_here = record {
        here = R.here;
        next_is = B.enters.next_is;
        end_is = ends_here;
        first_words = B.enters.type_words;
        first_type = first_here;
        second_words = second_type.words;
        second_type = subst (λ (i : ℕ). TypeAt mid3 i C) I.keep_is (type_behind keep mid2 part C (omega (arith, fits_level)) second_type.front);
        rest = tail used mid;
        kept = kept_back ∙ I.entered;
      }

      pub formable : length proof ≤ most_words → Formable proof mid3 kept at next n t.words t.end
      formable short = record {
        o = o;
        a = a;
        b = b;
        A = A;
        B = C;
        forms = forms_here;
        small_first = omega (arith, B.enters.type_words, B.small);
        small_second = omega (arith, second_type.words, second_small);
        short = short;
        room = omega (arith, fits_level, length_back, W.same, I.keep_is);
      }

      pub node_derived : {mid4 : List ℕ} {s : Answer Typed Refusal} → length mid4 ≡ length mid3 → TypeFormed (node_type o at a b A C) t.end mid3 mid4 s
          → Derived (infer Σ Γ at (node o a b)) (at + size (node o a b)) used ws mid4 s
      node_derived {mid4} {s} e f =
          let D = from_front {used = used} e (omega (arith, fits_level, length_back, I.kept_is)) f in
          subst₂ (λ (x : Result Term) (i : ℕ). Derived x i used ws mid4 s) (sym node_is) ends_here
          (record { answer = D.answer; front = D.front; kept = D.kept ∙ used_back })

-- ---- leaves, Signs and nodes, by the class that was found

-- what is derived of a term that stands ready
abbrev Goes : (sig table proof ws : List ℕ) → (floor used at left : ℕ) → List ℕ → Answer Typed Refusal → List Term → List Term → Term → Type 0
Goes sig table proof ws floor used at left new r Σ Γ t =
    SubjectAt sig table proof ws floor used at left Σ Γ t → Derived (infer Σ Γ at t) (at + size t) used ws new r

module _ {sig table proof ws : List ℕ} {floor used at left : ℕ} {k : Class} (found : k ≡ shape_class (word_shape (get_or proof at 0))) where
  pub atom_derived : {new : List ℕ} {r : Answer Typed Refusal} → k ≡ AtomClass → length new ≡ length ws → used + front_words ≤ length ws
      → ((Σ : List Term) → (a : Atom) → Declared sig table Σ → get_or proof at 0 ≡ atom_word a → PlainAtom a → TypeFormed (atom_type Σ at a) (at + 1) ws new r)
      → Derives sig table proof ws floor used at left new r
  unfolding infer size Plain
  atom_derived {new} {r} e same room f Σ Γ t S =
      atom_case (Goes sig table proof ws floor used at left new r Σ Γ) found e
      (λ a h S. from_front same room (f Σ a S.declared (at_head S.here) S.here.plain)) t S.here S

  -- a variable's type is plain where the variable stands
  raises : {Σ Γ : List Term} (n : ℕ) → SubjectAt sig table proof ws floor used at left Σ Γ (var n) → Raises Γ n
  unfolding infer
  raises n S A e s =
      (type_of S (ap (λ (x : Option Term). known unbound_variable at x >>= λ A. measured at (raise (suc n) A)) e
      ∙ measured_small at (subst (λ (i : ℕ). i ≤ most_type_words) (sym (size_shift 0 (pos (suc n)) A)) s))).0

  pub variable_derived : {new : List ℕ} {r : Answer Typed Refusal} {n : ℕ} → k ≡ Variable → length new ≡ length ws → used + front_words ≤ length ws
      → n ≡ payload_of (get_or proof at 0)
      → ((Γ : List Term) → Binders proof (scope_words floor used ws) Γ → Raises Γ n → TypeFormed (variable_type Γ at n) (at + 1) ws new r)
      → Derives sig table proof ws floor used at left new r
  unfolding infer size
  variable_derived {new} {r} {n} e same room q f Σ Γ t S =
      variable_case (Goes sig table proof ws floor used at left new r Σ Γ) found e (λ i h S.
      let j = q ∙ at_payload proof at i S.here in
      from_front same room (subst (λ (i : ℕ). TypeFormed (variable_type Γ at i) (at + 1) ws new r) j
      (f Γ S.binders (subst (Raises Γ) (sym j) (raises i S))))) t S.here S

  -- a refusal of a Sign's proposition is the Sign's
  pub sign_refused : {new : List ℕ} {r s : Answer Typed Refusal} {m p : ℕ} → k ≡ Sign → Derives sig table proof ws used used (at + 1) (left - 1) new r
      → told r ≡ refused m p → told s ≡ refused m p → Derives sig table proof ws floor used at left new s
  unfolding infer
  sign_refused {new} {r} {s} e d q x Σ Γ t S =
      sign_case (Goes sig table proof ws floor used at left new s Σ Γ) found e (λ n u h S.
      let D = d Σ [] u (sign_ready S) in
      refused_derived (ap (λ x. x >>= λ s. sign_type at n u s) (refused_is D q)) x D.kept) t S.here S

  pub node_derives : {new : List ℕ} {r : Answer Typed Refusal} → NotLeaf k
      → ((Σ Γ : List Term) (o : Op) (a b : Term) → SubjectAt sig table proof ws floor used at left Σ Γ (node o a b)
      → Derived (infer Σ Γ at (node o a b)) (at + size (node o a b)) used ws new r) → Derives sig table proof ws floor used at left new r
  node_derives {new} {r} n f Σ Γ t S = node_case (Goes sig table proof ws floor used at left new r Σ Γ) found n (λ o a b e h S. f Σ Γ o a b S) t S.here S

-- a Sign's proposition has its type
pub record SignedIn (proof ws new : List ℕ) (used at n end : ℕ) (Σ Γ : List Term) (t : Term) : Type 0 where
  pub a : ℕ
  pub q : Term
  pub s : Term
  pub signs : Signs proof new at n end a q s
  pub is : infer Σ Γ at t ≡ sign_type at a q s
  pub ends : at + size t ≡ end
  pub kept : tail used new ≡ tail used ws

pub signed_in : {sig table proof ws new : List ℕ} {floor used at left : ℕ} {Σ Γ : List Term} {t : Term} {k : Class} {r : Answer Typed Refusal} {f : Typed}
    → k ≡ shape_class (word_shape (get_or proof at 0)) → k ≡ Sign → SubjectAt sig table proof ws floor used at left Σ Γ t
    → Derives sig table proof ws used used (at + 1) (left - 1) new r → told r ≡ ok f → SignedIn proof ws new used at f.words f.end Σ Γ t
unfolding infer size
signed_in {sig} {table} {proof} {ws} {new} {floor} {used} {at} {left} {Σ} {Γ} {t} {f} found z S d q =
    sign_case (λ t. SubjectAt sig table proof ws floor used at left Σ Γ t → SignedIn proof ws new used at f.words f.end Σ Γ t) found z (λ a u h S.
    let D = d Σ [] u (sign_ready S) in
    let A = typed_is D f q in
    let e : f.end ≡ at + size (sign a u) = omega (arith, A.ends) in
    record {
      a = a;
      q = u;
      s = A.type;
      signs = record { here = S.here; end_is = e; type = A.front; type_words = A.words };
      is = ap (λ x. x >>= λ s. sign_type at a u s) A.is;
      ends = sym e;
      kept = D.kept;
    }) t S.here S

pub sign_derived : {proof ws mid new : List ℕ} {used at n end : ℕ} {Σ Γ : List Term} {t : Term} {r : Answer Typed Refusal}
    (I : SignedIn proof ws mid used at n end Σ Γ t) → length new ≡ length mid → used + front_words ≤ length mid
    → TypeFormed (sign_type at I.a I.q I.s) end mid new r → Derived (infer Σ Γ at t) (at + size t) used ws new r
sign_derived {ws} {new} {used} {r} I e l f =
    let D = from_front {used = used} e l f in
    subst₂ (λ (x : Result Term) (i : ℕ). Derived x i used ws new r) (sym I.is) (sym I.ends)
    (record { answer = D.answer; front = D.front; kept = D.kept ∙ I.kept })

-- a node stands ready
pub record NodeSubject (sig table proof ws : List ℕ) (floor used at left : ℕ) (Σ Γ : List Term) : Type 0 where
  pub o : Op
  pub a : Term
  pub b : Term
  pub ready : SubjectAt sig table proof ws floor used at left Σ Γ (node o a b)

pub node_subject : {sig table proof ws : List ℕ} {floor used at left : ℕ} {Σ Γ : List Term} {t : Term} {k : Class}
    → k ≡ shape_class (word_shape (get_or proof at 0)) → NotLeaf k → SubjectAt sig table proof ws floor used at left Σ Γ t
    → NodeSubject sig table proof ws floor used at left Σ Γ
node_subject {sig} {table} {proof} {ws} {floor} {used} {at} {left} {Σ} {Γ} {t} found n S =
    node_case (λ u. SubjectAt sig table proof ws floor used at left Σ Γ u → NodeSubject sig table proof ws floor used at left Σ Γ) found n
    (λ o a b e h S. record { o = o; a = a; b = b; ready = S }) t S.here S

-- a Sign stands ready
pub record SignSubject (sig table proof ws : List ℕ) (floor used at left : ℕ) (Σ Γ : List Term) : Type 0 where
  pub n : ℕ
  pub q : Term
  pub ready : SubjectAt sig table proof ws floor used at left Σ Γ (sign n q)

pub sign_subject : {sig table proof ws : List ℕ} {floor used at left : ℕ} {Σ Γ : List Term} {t : Term} {k : Class}
    → k ≡ shape_class (word_shape (get_or proof at 0)) → k ≡ Sign → SubjectAt sig table proof ws floor used at left Σ Γ t
    → SignSubject sig table proof ws floor used at left Σ Γ
sign_subject {sig} {table} {proof} {ws} {floor} {used} {at} {left} {Σ} {Γ} {t} found z S =
    sign_case (λ u. SubjectAt sig table proof ws floor used at left Σ Γ u → SignSubject sig table proof ws floor used at left Σ Γ) found z
    (λ n q h S. record { n = n; q = q; ready = S }) t S.here S
