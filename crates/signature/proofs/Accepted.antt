-- What the reading of a signature list tells: a refusal, or the constants.
use Prim.Native.Nat.{ℕ}
use mathlib.Core.Path.{◌≡◌, sym, subst, ◌∙◌}
use mathlib.Core.List.{List}
use lib.ListN.{length, take}
use Rattle.logic.specs.Result.{ok, refused}
use Rattle.logic.specs.Term.{Term}
use Rattle.logic.specs.SignatureList.{signature}
use Rattle.logic.proofs.Results.{ok_inj, bound}
use Rattle.logic.proofs.Stopped.{not_mapped}
use Rattle.typing.specs.Check.{ConstantsOf}
use Rattle.std.specs.Prelude.{Result as Answer}
use Rattle.logic.specs.Answer.{answer as told}
use Rattle.logic.specs.declared.refusal.Refusal.{Refusal}
use Rattle.signature.specs.Listing.{SignatureRead}

-- a bad constant was found
pub list_refused : {sig table : List ℕ} {r : Answer ℕ Refusal} (m p : ℕ) → SignatureRead (signature sig) sig table r → told r ≡ refused m p
    → signature sig ≡ refused m p
list_refused {sig} m p R q = not_mapped length (signature sig) (sym R.answer ∙ q)

-- the constants that were read
pub record ConstantsRead (sig table : List ℕ) (count : ℕ) : Type 0 where
  pub Σ : List Term
  pub is : signature sig ≡ ok Σ
  pub counted : count ≡ length Σ
  pub constants_are : ConstantsOf sig (take count table) Σ

pub constants_read : {sig table : List ℕ} {r : Answer ℕ Refusal} (count : ℕ) → SignatureRead (signature sig) sig table r → told r ≡ ok count
    → ConstantsRead sig table count
constants_read {sig} {table} count R q = bound (signature sig) _ (sym R.answer ∙ q) λ Σ i j.
    let h : count ≡ length Σ = sym (ok_inj j) in
    record { Σ = Σ; is = i; counted = h; constants_are = subst (λ (n : ℕ). ConstantsOf sig (take n table) Σ) (sym h) (R.constants Σ i) }
