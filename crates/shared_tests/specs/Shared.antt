-- The tests that calls share, as one step before a call's own tests.
use Rattle.std.specs.Prelude.{ℕ, ◌≤◌, ◌≡◌, List, [], leb, length, take}
use Rattle.std.specs.Prelude.{Result as Answer}
use Rattle.logic.specs.Limits.{least_workspace, most_register, most_operations}
use Rattle.logic.specs.Refusals.{workspace_short, bad_number}
use Rattle.logic.specs.Result.{Result, ok, ◌>>=◌, ◌>>◌, require}
use Rattle.logic.specs.Answer.{answer as told}
use Rattle.logic.specs.declared.refusal.Refusal.{Refusal}
use Rattle.logic.specs.Term.{Term}
use Rattle.logic.specs.SignatureList.{signature, operations_test}
use Rattle.typing.specs.Check.{ConstantsOf}
use Rattle.register.specs.Records.{Content, header, release, register_content}
use Rattle.register.specs.Calls.{Lent, Outline, View, view, length_test, shared, outline_of, fresh_outline, new_content, on_register}
use Rattle.shared_tests.specs.declared.signed.Signature.{Signature}

-- what a call is lent: of the workspace only the length matters
abbrev pub lent_of : (sig : List ℕ) (n : ℕ) (workspace : List ℕ) → Lent
lent_of sig n workspace = record { sig = sig; n = n; workspace = length workspace }

-- with the code's signature
abbrev pub lent_by : Signature → (workspace : List ℕ) → Lent
lent_by s workspace = lent_of s.list.now s.operations workspace

-- tests 1 and 2
abbrev pub lengths_test : (workspace register : ℕ) → Result (Unit {0})
lengths_test workspace register = require (leb least_workspace workspace) workspace_short 0 >> length_test register

-- tests 4 and 5
abbrev pub signed : List ℕ → ℕ → Result (List Term)
signed sig n = signature sig >>= λ Σ. require (operations_test Σ n) bad_number 0 >> ok Σ

-- the answer, how many constants there are; and where the signature is accepted, the first words of the table say where its constants' types stand
pub record SignedAs (sig : List ℕ) (n : ℕ) (table : List ℕ) (r : Answer ℕ Refusal) : Type 0 where
  pub answer : told r ≡ (signed sig n >>= λ Σ. ok (length Σ))
  pub constants : (Σ : List Term) → signed sig n ≡ ok Σ → ConstantsOf sig (take (length Σ) table) Σ

-- what the shared tests find: for calls on a register that is not broken, and for open
abbrev pub prepared : Lent → List ℕ → Result View
prepared l reg = on_register l reg ok

-- these look at no mode
abbrev pub no_content : Content
no_content = new_content release []

abbrev pub prepared_to_open : Lent → (len : ℕ) → Result View
prepared_to_open l len = shared l (fresh_outline len) (ok no_content) ok

-- how many constants they find
abbrev pub constants_found : Result View → Result ℕ
constants_found o = o >>= λ v. ok (length v.Σ)

-- the tests passed
pub record LentSo (l : Lent) (o : Outline) (c : Content) (table : List ℕ) (v : View) : Type 0 where
  pub is : v ≡ view l o c v.Σ
  pub constants : ConstantsOf l.sig (take (length v.Σ) table) v.Σ
  pub workspace : least_workspace ≤ l.workspace
  pub not_shorter : header ≤ o.size
  pub not_longer : o.size ≤ most_register
  pub operations : l.n ≤ most_operations

-- on a register
pub record RegisterSo (l : Lent) (reg table : List ℕ) (v : View) : Type 0 where
  pub content : Content
  pub reads : register_content reg ≡ ok content
  pub lent_so : LentSo l (outline_of reg) content table v

-- the answer, and what is so where the tests passed
pub record PreparedAs (l : Lent) (reg table : List ℕ) (r : Answer ℕ Refusal) : Type 0 where
  pub answer : told r ≡ constants_found (prepared l reg)
  pub passed : (v : View) → prepared l reg ≡ ok v → RegisterSo l reg table v

pub record OpenedAs (l : Lent) (len : ℕ) (table : List ℕ) (r : Answer ℕ Refusal) : Type 0 where
  pub answer : told r ≡ constants_found (prepared_to_open l len)
  pub passed : (v : View) → prepared_to_open l len ≡ ok v → LentSo l (fresh_outline len) no_content table v
