-- The tests that calls share.
use Prim.Native.Nat.{ℕ, ◌≤◌}
use mathlib.Core.Path.{◌≡◌, refl, sym, ap, subst, ◌∙◌}
use mathlib.Core.Bool.{Bool, true, false, ◌&&◌}
use mathlib.Core.List.{List}
use lib.Dec.{leb}
use lib.ListN.{length, take}
use borrow.Author.Tests.{leb-true}
use Rattle.logic.specs.Limits.{least_workspace, most_register, most_operations}
use Rattle.logic.specs.Refusals.{workspace_short, register_length, bad_number}
use Rattle.logic.specs.Result.{Result, ok, refused, ◌>>=◌, ◌>>◌, require, without_value}
use Rattle.logic.specs.Term.{Term}
use Rattle.logic.specs.SignatureList.{signature, operations, operations_test}
use Rattle.logic.proofs.Basics.{clash}
use Rattle.logic.proofs.Results.{followed, ok_inj, bound, bind_is}
use Rattle.logic.proofs.Stopped.{not_refused, stopped_then}
use Rattle.logic.specs.Answer.{answer}
use Rattle.logic.specs.declared.refusal.Refusal.{Refusal}
use Rattle.std.specs.Prelude.{Ok}
use Rattle.std.specs.Prelude.{Result as Answer}
use Rattle.typing.specs.Check.{ConstantsOf}
use Rattle.signature.proofs.Accepted.{ConstantsRead}
use Rattle.register.specs.Records.{Content, header, latest, register_content}
use Rattle.register.proofs.Words.{unbroken_right}
use Rattle.register.specs.Calls.{Lent, Outline, View, view, length_test, shared, fresh_outline}
use Rattle.shared_tests.specs.Shared.{no_content, lengths_test, signed, SignedAs, constants_found}
use Rattle.shared_tests.specs.Shared.{prepared_to_open, LentSo, OpenedAs}

-- ---- tests that give no value

pub value_refused : {X : Type 0} {m p : ℕ} (o : Result X) → without_value o ≡ refused m p → o ≡ refused m p
value_refused o e = stopped_then o _ e (λ i. i) λ x i j. absurd (not_refused j)

pub value_there : {X : Type 0} (o : Result X) → without_value o ≡ ok tt → (x : X) × (o ≡ ok x)
value_there o e = followed o _ e λ x i j. (x, i)

-- ---- tests 1 and 2

pub record Lengths (workspace register : ℕ) : Type 0 where
  pub workspace_fits : least_workspace ≤ workspace
  pub not_shorter : header ≤ register
  pub not_longer : register ≤ most_register
  pub passed : lengths_test workspace register ≡ ok tt

pub lengths_fine : (workspace register : ℕ) → lengths_test workspace register ≡ ok tt → Lengths workspace register
lengths_fine w r e = go (leb least_workspace w) (leb header r) (leb r most_register) refl refl refl e
  where
    go : (a b c : Bool) → leb least_workspace w ≡ a → leb header r ≡ b → leb r most_register ≡ c
        → (require a workspace_short 0 >> require (b && c) register_length 0) ≡ ok tt → Lengths w r
    go false b c p q s e = absurd (clash (cc))
    go true false c p q s e = absurd (clash (cc))
    go true true false p q s e = absurd (clash (cc))
    go true true true p q s f = record {
      workspace_fits = leb-true least_workspace w p;
      not_shorter = leb-true header r q;
      not_longer = leb-true r most_register s;
      passed = e;
    }

-- ---- tests 4 and 5

module _ (sig table : List ℕ) (n count : ℕ) (C : ConstantsRead sig table count) where
  signed_is : (b : Bool) → b ≡ operations_test C.Σ n → signed sig n ≡ (require b bad_number 0 >> ok C.Σ)
  signed_is b e = ap (λ x. x >>= λ Σ. require (operations_test Σ n) bad_number 0 >> ok Σ) C.is ∙ ap
      (λ (x : Bool). require x bad_number 0 >> ok C.Σ) (sym e)

  pub operations_fit : (b : Bool) → b ≡ operations_test C.Σ n → b ≡ true → SignedAs sig n table (Ok count)
  operations_fit b e q =
      let h : signed sig n ≡ ok C.Σ = signed_is true (sym q ∙ e) in
      let c = subst (λ (i : ℕ). ConstantsOf sig (take i table) C.Σ) C.counted C.constants_are in
      record {
        answer = sym (bind_is _ h (ap ok (sym C.counted)));
        constants = λ Σ f.
            subst (λ (S : List Term). ConstantsOf sig (take (length S) table) S) (ok_inj (sym h ∙ f)) c;
      }

-- ---- all of them, before a call's own tests

then_passed : {Y : Type 0} (a b : Result (Unit {0})) (c : Result Y) → (a >> b) ≡ ok tt → (a >> (b >> c)) ≡ c
then_passed (ok x) (ok y) c e = refl
then_passed (ok x) (refused m p) c e = absurd (clash (cc))
then_passed (refused m p) b c e = absurd (clash (cc))

module _ {Y : Type 0} (l : Lent) (o : Outline) (own : View → Result Y) where
  -- tests 4 and 5, and then the call's own
  rest : Content → Result Y
  rest c = signed l.sig l.n >>= λ Σ. own (view l o c Σ)

  signed_then : (c : Content) → (signature l.sig >>= λ Σ. require (operations_test Σ l.n) bad_number 0 >> own (view l o c Σ)) ≡ rest c
  unfolding rest
  signed_then c = go (signature l.sig)
    where
      tests : (b : Bool) (Σ : List Term) → (require b bad_number 0 >> own (view l o c Σ)) ≡ ((require b bad_number 0 >> ok Σ) >>= λ Σ. own (view l o c Σ))
      tests true Σ = refl
      tests false Σ = refl

      go : (x : Result (List Term)) → (x >>= λ Σ. require (operations_test Σ l.n) bad_number 0 >> own (view l o c Σ)) ≡
          ((x >>= λ Σ. require (operations_test Σ l.n) bad_number 0 >> ok Σ) >>= λ Σ. own (view l o c Σ))
      go (ok Σ) = tests (operations_test Σ l.n) Σ
      go (refused m p) = refl

  pub shared_signed : (content : Result Content) (c : Content) → lengths_test l.workspace o.size ≡ ok tt → content ≡
      ok c → shared l o content own ≡ (signed l.sig l.n >>= λ Σ. own (view l o c Σ))
  unfolding rest
  shared_signed content c e r = then_passed (require (leb least_workspace l.workspace) workspace_short 0) (length_test o.size) _ e
      ∙ ap (λ x. x >>= λ c. signature l.sig >>= λ Σ. require (operations_test Σ l.n) bad_number 0 >> own (view l o c Σ)) r ∙ signed_then c

-- an accepted number of operations is not too large
few_operations : (sig : List ℕ) (n : ℕ) (Σ : List Term) → signed sig n ≡ ok Σ → n ≤ most_operations
few_operations sig n Σ e = go (signature sig) e
  where
    tests : (a b c : Bool) (Σ' : List Term) → leb n most_operations ≡ b → (require (a && b && c) bad_number 0 >> ok Σ') ≡ ok Σ → n ≤ most_operations
    tests true true c Σ' q f = leb-true n most_operations q
    tests true false c Σ' q f = absurd (clash (cc))
    tests false b c Σ' q f = absurd (clash (cc))

    go : (x : Result (List Term)) → (x >>= λ Σ. require (operations_test Σ n) bad_number 0 >> ok Σ) ≡ ok Σ → n ≤ most_operations
    go (ok Σ') f = tests (leb 1 n) (leb n most_operations) (operations Σ' n) Σ' refl f
    go (refused m p) f = absurd (clash (cc))

pub bind_bind : {X Y Z : Type 0} (r : Result X) (f : X → Result Y) (g : Y → Result Z) → ((r >>= f) >>= g) ≡ (r >>= λ x. f x >>= g)
bind_bind (ok x) f g = refl
bind_bind (refused m p) f g = refl

-- the shared tests found what the table and the answer say
module _ (l : Lent) (t : Outline) (c : Content) (table : List ℕ) (r : Answer ℕ Refusal) (L : Lengths l.workspace t.size) (S : SignedAs l.sig l.n table r)
    (o : Result View) (h : o ≡ (signed l.sig l.n >>= λ Σ. ok (view l t c Σ))) where
  lent_answer : answer r ≡ constants_found o
  lent_answer = S.answer ∙ sym (ap constants_found h ∙ bind_bind (signed l.sig l.n) _ _)

  lent_so : (v : View) → o ≡ ok v → LentSo l t c table v
  lent_so v e = bound (signed l.sig l.n) _ (sym h ∙ e) λ Σ s w. subst (LentSo l t c table) (ok_inj w) (record {
    is = refl;
    constants = S.constants Σ s;
    workspace = L.workspace_fits;
    not_shorter = L.not_shorter;
    not_longer = L.not_longer;
    operations = few_operations l.sig l.n Σ s;
  })

module _ (l : Lent) (len : ℕ) (table : List ℕ) where
  pub opened_as : (r : Answer ℕ Refusal) → Lengths l.workspace len → SignedAs l.sig l.n table r → OpenedAs l len table r
  opened_as r L S =
      let h = shared_signed l (fresh_outline len) ok (ok no_content) no_content L.passed refl in
      record {
        answer = lent_answer l (fresh_outline len) no_content table r L S (prepared_to_open l len) h;
        passed =
            lent_so l (fresh_outline len) no_content table r L S (prepared_to_open l len) h;
      }

-- ---- the latest day

pub latest_read : (reg : List ℕ) (c : Content) → register_content reg ≡ ok c → latest reg ≡ c.latest
latest_read reg c e = ap latest ((unbroken_right reg c).0 e).words
