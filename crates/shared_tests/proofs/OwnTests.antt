-- A call's own tests, behind those that calls share; and what tests 6 to 12 tell.
use Prim.Native.Nat.{ℕ, ◌≤◌}
use native.Mathlib.Omega.{arith}
use mathlib.Core.Path.{◌≡◌, refl, sym, ap, subst, ◌∙◌, fun_ext}
use mathlib.Core.List.{List, []}
use lib.Dec.{leb}
use lib.ListN.{length, take, length-take}
use Rattle.logic.specs.Limits.{least_workspace, most_words, most_nesting}
use Rattle.logic.specs.Refusals.{workspace_short, bad_number}
use Rattle.logic.specs.Result.{Result, ok, refused, ◌>>=◌, ◌>>◌, require}
use Rattle.logic.specs.Term.{Term, size}
use Rattle.logic.specs.SignatureList.{signature, operations_test}
use Rattle.logic.specs.Infer.{infer}
use Rattle.logic.specs.Check.{term_of, check_term, Checked}
use Rattle.logic.proofs.Basics.{clash}
use Rattle.logic.proofs.Results.{ok_inj, bound, bind_is}
use Rattle.logic.proofs.Stopped.{not_mapped, stop}
use Rattle.logic.proofs.Check.{term_of_right}
use Rattle.words.specs.Place.{Is}
use Rattle.words.specs.Typed.{TypeAt}
use Rattle.words.proofs.Places.{end_of}
use Rattle.rules.specs.Form.{Front}
use Rattle.rules.specs.declared.typed.Typed.{Typed}
use Rattle.typing.specs.Check.{ConstantsOf, typed_term, Judged}
use Rattle.register.specs.Records.{Content, register_content}
use Rattle.register.specs.Calls.{Lent, Outline, View, view, length_test, shared, outline_of, on_register}
use Rattle.shared_tests.specs.Shared.{prepared, constants_found, LentSo, PreparedAs}
use Rattle.shared_tests.proofs.SharedTests.{bind_bind}
use Rattle.logic.specs.Answer.{answer}
use Rattle.logic.specs.declared.refusal.Refusal.{Refusal}
use Rattle.std.specs.Prelude.{Result as Answer}

-- ---- a call's own tests come behind the shared ones

then_bind : {X Y Z : Type 0} (a : Result X) (r : Result Y) (g : Y → Result Z) → ((a >> r) >>= g) ≡ (a >> (r >>= g))
then_bind (ok x) r g = refl
then_bind (refused m p) r g = refl

pub own_tests : {Y : Type 0} (l : Lent) (o : Outline) (content : Result Content) (own : View → Result Y) →
    shared l o content own ≡ (shared l o content ok >>= own)
own_tests l o content own =
    sym (then_bind (require (leb least_workspace l.workspace) workspace_short 0) _ own ∙ ap
    (λ x. require (leb least_workspace l.workspace) workspace_short 0 >> x)
    (then_bind (length_test o.size) _ own ∙ ap (λ x. length_test o.size >> x)
    (bind_bind content _ own ∙ ap (λ k. content >>= k) (fun_ext λ c.
    bind_bind (signature l.sig) _ own ∙ ap (λ k. signature l.sig >>= k) (fun_ext λ Σ.
    then_bind (require (operations_test Σ l.n) bad_number 0) (ok (view l o c Σ)) own)))))

-- what an answer that refuses tells
pub not_ready : (o : Result View) (r : Answer ℕ Refusal) → answer r ≡ constants_found o → (m p : ℕ) → answer r ≡ refused m p → o ≡ refused m p
not_ready o r e m p q = not_mapped (λ v. length v.Σ) o (sym e ∙ q)

module _ {Y : Type 0} (l : Lent) (reg table : List ℕ) (r : Answer ℕ Refusal) (own : View → Result Y) (P : PreparedAs l reg table r) where
  -- the shared tests refused
  pub not_prepared : (m p : ℕ) → answer r ≡ refused m p → on_register l reg own ≡ refused m p
  not_prepared m p q = own_tests l (outline_of reg) (register_content reg) own ∙ stop own (not_ready (prepared l reg) r P.answer m p q)

  -- or found a register that is not broken and a signature that is accepted
  pub record PassedSo (count : ℕ) : Type 0 where
    pub content : Content
    pub reads : register_content reg ≡ ok content
    pub Σ : List Term
    pub counted : count ≡ length Σ
    pub constants : ConstantsOf l.sig (take count table) Σ
    pub lent_so : LentSo l (outline_of reg) content table (view l (outline_of reg) content Σ)
    pub is : on_register l reg own ≡ own (view l (outline_of reg) content Σ)

  pub passed_so : (count : ℕ) → answer r ≡ ok count → PassedSo count
  passed_so count q = bound (prepared l reg) _ (sym P.answer ∙ q) λ v e n.
      let R = P.passed v e in
      let S = R.lent_so in
      let c : count ≡ length v.Σ = sym (ok_inj n) in
      record {
        content = R.content;
        reads = R.reads;
        Σ = v.Σ;
        counted = c;
        constants = subst (λ (i : ℕ). ConstantsOf l.sig (take i table) v.Σ) (sym c) S.constants;
        lent_so = subst (LentSo l (outline_of reg) R.content table) S.is S;
        is = own_tests l (outline_of reg) (register_content reg) own ∙ bind_is own e (ap own S.is);
      }

-- ---- a term's type

-- a term with its type
abbrev with_type : Term → Result Term → Result Checked
with_type t x = x >>= λ A. ok (record { term = t; type = A })

abbrev with_types : List Term → Result Term → Result Checked
with_types Σ x = x >>= λ t. with_type t (infer Σ [] 0 t)

pub record TypedSo (Σ : List Term) (ws : List ℕ) (A : Term) : Type 0 where
  pub term : Term
  pub is : check_term Σ ws ≡ ok (record { term = term; type = A })
  pub term_is : Is ws term
  pub short : length ws ≤ most_words

pub typed_so : (Σ : List Term) (ws : List ℕ) (A : Term) → typed_term Σ most_words most_nesting ws ≡ ok A → TypedSo Σ ws A
typed_so Σ ws A e = go (term_of most_words most_nesting ws) refl e
  where
    go : (x : Result Term) → term_of most_words most_nesting ws ≡ x → (x >>= λ t. infer Σ [] 0 t) ≡ ok A → TypedSo Σ ws A
    go (ok t) f g =
        let W = (term_of_right most_words most_nesting ws t).0 f in
        record { term = t; is = ap (with_types Σ) f ∙ ap (with_type t) g; term_is = record { plain = W.plain; words = W.words }; short = W.not_more }
    go (refused m p) f g = absurd (clash (cc))

pub typed_refused : (Σ : List Term) (ws : List ℕ) (m p : ℕ) → typed_term Σ most_words most_nesting ws ≡ refused m p → check_term Σ ws ≡ refused m p
typed_refused Σ ws m p e = go (term_of most_words most_nesting ws) e
  where
    typed : (t : Term) (x : Result Term) → x ≡ refused m p → with_type t x ≡ refused m p
    typed t (ok A) g = absurd (clash (cc))
    typed t (refused m' p') g = cc

    go : (x : Result Term) → (x >>= λ t. infer Σ [] 0 t) ≡ refused m p → with_types Σ x ≡ refused m p
    go (ok t) g = typed t (infer Σ [] 0 t) g
    go (refused m' p') g = cc

-- what the answer of tests 6 to 12 tells
pub record TypeFound (o : Result Term) (new : List ℕ) (words : ℕ) : Type 0 where
  pub type : Term
  pub is : o ≡ ok type
  pub words_are : words ≡ size type
  pub front : TypeAt new 0 type

pub type_found : (o : Result Term) (end : ℕ) (new : List ℕ) (r : Answer Typed Refusal) (t : Typed)
    → Judged o end new r → answer r ≡ ok t → TypeFound o new t.words
type_found o end new r t J q = bound o _ (sym J.answer ∙ q) λ A i w.
    record { type = A; is = i; words_are = ap (λ (x : Typed). x.words) (sym (ok_inj w)); front = subst (λ (x : Result Term). Front x new) i J.front }

pub type_refused : {m p : ℕ} (o : Result Term) (end : ℕ) (new : List ℕ) (r : Answer Typed Refusal)
    → Judged o end new r → answer r ≡ refused m p → o ≡ refused m p
type_refused o end new r J q = not_mapped _ o (sym J.answer ∙ q)

-- the table's part that is lent
pub table_within : (l : Lent) (table : List ℕ) (count : ℕ) (Σ : List Term) → count ≡ length Σ → ConstantsOf l.sig (take count table) Σ →
    count ≤ length table
table_within l table count Σ e C = omega (arith, length-take count table, C.declared.count)

module _ (o : Result Term) (end : ℕ) (new : List ℕ) (r : Answer Typed Refusal) (J : Judged o end new r) where
  pub words_within : (t : Typed) → answer r ≡ ok t → t.words ≤ length new
  words_within t q = let T = type_found o end new r t J q in omega (arith, T.words_are, end_of new 0 T.type T.front.rest T.front.words)
