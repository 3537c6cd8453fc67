-- The tests that calls share pass exactly if what is lent is ready; then a call's own tests decide.
use Prim.Native.Nat.{ℕ, ◌≤◌}
use mathlib.Core.Path.{◌≡◌, refl, ◌∙◌, ap}
use mathlib.Core.Logic.{◌↔◌}
use mathlib.Core.Bool.{true, ◌&&◌}
use mathlib.Core.List.{List, []}
use mathlib.Core.Option.{Option}
use lib.Dec.{leb}
use lib.ListN.{length}
use borrow.Author.Tests.{leb-true, le-leb}
use Rattle.logic.specs.Limits.{least_workspace, most_register, most_operations}
use Rattle.logic.specs.Result.{Result, ok, refused}
use Rattle.logic.specs.Term.{Term, encode}
use Rattle.logic.specs.Scope.{Signature}
use Rattle.logic.proofs.Results.{not_ok, bound, tested, bind_is, pass, both_true, true_both}
use Rattle.logic.proofs.Signatures.{empty_signature}
use Rattle.logic.proofs.Refused.{inside}
use Rattle.logic.specs.SignatureList.{Lists, signature, operations, operations_test}
use Rattle.register.specs.Records.{Record, Content, header, register_content, Unbroken, used_by, statements, holding}
use Rattle.register.specs.Calls.{Lent, Outline, View, view, shared, outline_of, on_register, signs_held}
use Rattle.register.specs.Succeeds.{Ready, SignsHeld}
use Rattle.register.proofs.Words.{unbroken_right, Stores, stores_content, stores_used}
use Rattle.register.proofs.Held.{holding_covered, signs_ok}
use Rattle.register.specs.History.{Setting, lent}
use Rattle.logic.proofs.SignatureList.{well_formed, signature_right, operations_ok, ok_operations}

-- an accepted signature is a signature in the sense of Scope
pub signature_of : {l : Lent} {len : ℕ} {Σ : List Term} → Ready l len Σ → Signature Σ
signature_of r = well_formed empty_signature r.accepted

module _ (l : Lent) (o : Outline) where
  -- where they passed, what is lent is ready
  pub made_ready : {Σ : List Term} → least_workspace ≤ l.workspace →
      (header ≤ o.size) × (o.size ≤ most_register) → Lists [] l.sig Σ → operations_test Σ l.n ≡ true → Ready l o.size Σ
  made_ready {Σ} long size lists e =
      let (n, ops) = both_true (leb 1 l.n && leb l.n most_operations) (operations Σ l.n) e in
      let (one, most) = inside 1 most_operations l.n n in
      record {
        workspace = long;
        not_shorter = size.0;
        not_longer = size.1;
        accepted = lists;
        some_operation = one;
        not_more = most;
        permits = λ i h. (operations_ok Σ l.n ops i h).0;
        receipts = λ i h. (operations_ok Σ l.n ops i h).1;
      }

  -- and the call's own tests decide
  pub shared_ok : {Y Z : Type 0} (c : Content) (own : View → Result Y) {y : Y} → shared l o (ok c) own ≡ ok y →
      ((Σ : List Term) → Ready l o.size Σ → own (view l o c Σ) ≡ ok y → Z) → Z
  shared_ok c own e f =
      tested (leb least_workspace l.workspace) _ _ _ e λ w e₁. tested (leb header o.size && leb o.size most_register) _ _ _ e₁ λ range e₂.
      bound (signature l.sig) _ e₂ λ Σ a e₃. tested (operations_test Σ l.n) _ _ _ e₃ λ p e₄.
      f Σ (made_ready (leb-true least_workspace l.workspace w) (inside header most_register o.size range) ((signature_right l.sig Σ).0 a) p) e₄

  pub shared_is : {Y : Type 0} {y : Result Y} {Σ : List Term} (c : Content) (own : View → Result Y) → Ready l o.size Σ →
      own (view l o c Σ) ≡ y → shared l o (ok c) own ≡ y
  shared_is {Σ} c own r e =
      pass _ _ (le-leb least_workspace l.workspace r.workspace)
      (pass _ _ (true_both (le-leb header o.size r.not_shorter) (le-leb o.size most_register r.not_longer))
      (bind_is _ ((signature_right l.sig Σ).1 r.accepted)
      (pass _ _ (true_both (true_both (le-leb 1 l.n r.some_operation) (le-leb l.n most_operations r.not_more))
      (ok_operations Σ l.n (λ i h. (r.permits i h, r.receipts i h)))) e)))

  -- test 3 among them
  unbroken_ok : {Y Z : Type 0} (content : Result Content) (own : View → Result Y) {y : Y} → shared l o content own ≡ ok y →
      ((c : Content) → content ≡ ok c → shared l o (ok c) own ≡ ok y → Z) → Z
  unbroken_ok (ok c) own e f = f c refl e
  unbroken_ok (refused m p) own e f =
      tested (leb least_workspace l.workspace) _ _ _ e λ w e₁.
      tested (leb header o.size && leb o.size most_register) _ _ _ e₁ λ range e₂. absurd (not_ok e₂)

-- with an accepted signature and an unbroken register, the call's own tests decide
module _ (l : Lent) (reg : List ℕ) where
  pub register_ok : {Y Z : Type 0} (own : View → Result Y) {y : Y} → on_register l reg own ≡ ok y →
      ((c : Content) (Σ : List Term) → Unbroken reg c → Ready l (length reg) Σ → Signature Σ → own (view l (outline_of reg) c Σ) ≡ ok y → Z) → Z
  register_ok own e f =
      unbroken_ok l (outline_of reg) (register_content reg) own e λ c u e₁. shared_ok l (outline_of reg) c own e₁ λ Σ r e₂.
      f c Σ ((unbroken_right reg c).0 u) r (signature_of r) e₂

  pub register_is : {Y : Type 0} {y : Result Y} {c : Content} {Σ : List Term} (own : View → Result Y) → Unbroken reg c → Ready l (length reg) Σ →
      own (view l (outline_of reg) c Σ) ≡ y → on_register l reg own ≡ y
  register_is {c} own u r e = ap (λ x. shared l (outline_of reg) x own) ((unbroken_right reg c).1 u) ∙ shared_is l (outline_of reg) c own r e

-- with another workspace that is not short, what is lent is ready too
pub renewed : {s : Setting} {w w' len : ℕ} {Σ : List Term} → least_workspace ≤ w' → Ready (lent s w) len Σ → Ready (lent s w') len Σ
renewed long r = record {
  workspace = long;
  not_shorter = r.not_shorter;
  not_longer = r.not_longer;
  accepted = r.accepted;
  some_operation = r.some_operation;
  not_more = r.not_more;
  permits = r.permits;
  receipts = r.receipts;
}

-- no embedded Sign is refused exactly if all are held on the day
pub signs_right : (day : Option ℕ) (rs : List Record) (t : Term) → (signs_held (holding day (statements rs)) t ≡ ok tt) ↔ SignsHeld day rs t
signs_right day rs t = (
  (λ e n q i. (holding_covered day rs n (encode q)).0 ((signs_ok (holding day (statements rs)) t).0 e n q i)),
  λ h. (signs_ok (holding day (statements rs)) t).1 (λ n q i. (holding_covered day rs n (encode q)).1 (h n q i)),
)

-- the outline of a register of the length len with the content c
abbrev pub outlined : ℕ → Content → Outline
outlined len c = record { size = len; used = used_by c.records }

-- a verdict on a register whose content is known
pub stored : {Y : Type 0} {len : ℕ} {c : Content} {reg : List ℕ} → Stores len c reg → (l : Lent) (own : View → Result Y) →
    on_register l reg own ≡ shared l (outlined len c) (ok c) own
stored st l own = λ i. shared l (record { size = st.size i; used = stores_used st i }) (stores_content st i) own
