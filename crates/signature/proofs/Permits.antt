-- The constants of the operations, permit by permit and receipt by receipt.
use Prim.Native.Nat.{ℕ, zero, suc, ◌+◌, ◌-◌, ◌≤◌, ◌<◌}
use native.Mathlib.Omega.{arith}
use native.Mathlib.Decide.{dec_lt}
use native.Mathlib.Numerals.{add-one}
use mathlib.Core.Path.{◌≡◌, refl, sym, ap, subst, ◌∙◌}
use mathlib.Core.Bool.{Bool, true, false, ◌&&◌, and-false}
use mathlib.Core.List.{List}
use lib.Dec.{leb}
use lib.ListN.{length, take, drop, get_or, get_elem?}
use borrow.Author.Tests.{le-leb, lt-leb}
use Rattle.logic.specs.Limits.{most_operations}
use Rattle.logic.specs.Term.{Term, P, S, Pi, encode}
use Rattle.logic.specs.SignatureList.{permit, receipt_of, is_type, operations, operations_test}
use Rattle.logic.proofs.Results.{true_both}
use Rattle.logic.proofs.Words.{plain_in_range}
use Rattle.logic.specs.Reading.{InRange}
use Rattle.words.proofs.Places.{part_is}
use Rattle.words.proofs.Sames.{same_types}
use Rattle.rules.specs.Scope.{Declared}
use Rattle.rules.proofs.Atoms.{no_element, ConstantAt}

-- ---- one constant

pub no_such_constant : {sig table : List ℕ} {Σ : List Term} (i : ℕ) (A : Term) → length table ≤ i → Declared sig table Σ → false ≡ is_type A (get_elem? Σ i)
no_such_constant {Σ} i A l d = sym (ap (is_type A) (no_element Σ i (omega (arith, d.count))))

-- the words of its type, from its place up to `end`, were compared with those of A
pub compared : {sig table : List ℕ} {Σ : List Term} {i : ℕ} (C : ConstantAt sig table i Σ) (A : Term) (words : List ℕ) (end : ℕ) (r : Bool)
    → end ≡ get_or table i 0 + get_or sig (get_or table i 0 - 1) 0 → words ≡ encode A → InRange A
    → (r ≡ true → take (end - get_or table i 0) (drop (get_or table i 0) sig) ≡ words) × (take (end - get_or table i 0) (drop (get_or table i 0) sig) ≡ words
    → r ≡ true) → r ≡ is_type A (get_elem? Σ i)
compared {table} {i} C A words end r e w g f =
    same_types _ words C.type A r (part_is end C.here (e ∙ ap (λ (k : ℕ). get_or table i 0 + k) C.words)) w (plain_in_range C.type C.here.plain)
    g f.0 f.1 ∙ sym (ap (is_type A) C.entry)

-- ---- the operations

module _ (Σ : List Term) where
  -- the two tests of an operation
  abbrev permitted : ℕ → Bool
  permitted i = is_type (Pi S P) (get_elem? Σ (permit i))

  abbrev received : ℕ → Bool
  received i = is_type (Pi S (Pi S P)) (get_elem? Σ (receipt_of i))

  -- an operation without its constants spoils the rest
  spoilt : (n i : ℕ) → i < n → operations Σ (suc i) ≡ false → operations Σ n ≡ false
  unfolding operations
  spoilt zero i l e = absurd (omega arith)
  spoilt (suc n) i l e = elim (dec_lt i n) [
    | yes k ↦ ap (λ (b : Bool). b && permitted n && received n) (spoilt n i k e)
    | no k ↦ (let q : i ≡ n = omega arith in subst (λ (j : ℕ). operations Σ (suc j) ≡ false) q e)
  ]

  module _ (n : ℕ) where
    pub too_few_operations : n < 1 → false ≡ operations_test Σ n
    too_few_operations l = sym (ap (λ (b : Bool). b && leb n most_operations && operations Σ n) (lt-leb 1 n l))

    pub too_many_operations : most_operations < n → false ≡ operations_test Σ n
    too_many_operations l =
        sym (ap (λ (b : Bool). leb 1 n && b && operations Σ n) (lt-leb n most_operations l) ∙ ap (λ (b : Bool). b && operations Σ n) (and-false (leb 1 n)))

    refused_operations : operations Σ n ≡ false → false ≡ operations_test Σ n
    refused_operations e = sym (ap (λ (b : Bool). leb 1 n && leb n most_operations && b) e ∙ and-false (leb 1 n && leb n most_operations))

    pub no_permit : (i : ℕ) → i < n → permitted i ≡ false → false ≡ operations_test Σ n
    unfolding operations
    no_permit i l e =
        refused_operations (spoilt n i l (ap (λ (b : Bool). operations Σ i && b && received i) e
        ∙ ap (λ (b : Bool). b && received i) (and-false (operations Σ i))))

    pub no_receipt : (i : ℕ) → i < n → received i ≡ false → false ≡ operations_test Σ n
    unfolding operations
    no_receipt i l e = refused_operations
        (spoilt n i l (ap (λ (b : Bool). operations Σ i && permitted i && b) e ∙ and-false (operations Σ i && permitted i)))

    pub all_operations : 1 ≤ n → n ≤ most_operations → operations Σ n ≡ true → true ≡ operations_test Σ n
    all_operations l h e = sym (true_both (true_both (le-leb 1 n l) (le-leb n most_operations h)) e)

  pub no_operations : operations Σ 0 ≡ true
  unfolding operations
  no_operations = refl

  pub one_operation : (i : ℕ) → operations Σ i ≡ true → permitted i ≡ true → received i ≡ true → operations Σ (i + 1) ≡ true
  unfolding operations
  one_operation i o p r = ap (operations Σ) (add-one i) ∙ true_both (true_both o p) r
