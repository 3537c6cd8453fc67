-- The count of free variables: from a number on and from the next one on the two differ by how often that variable
-- occurs, and where the count is 0 a shift moves nothing. The literals by computation.
use Prim.Native.Nat.{ℕ, suc, ◌+◌, ◌≤◌, ◌<◌}
use mathlib.Core.Path.{◌≡◌, refl, sym, ◌∙◌, ap, ap₂}
use mathlib.Core.Logic.{inl, inr, ◌↔◌}
use mathlib.Core.Bool.{true, false, cond}
use native.Mathlib.Nat.{add-zero}
use native.Mathlib.Omega.{arith}
use native.Mathlib.Decide.{dec_lt}
use lib.Dec.{ltb}
use lib.IntN.{ℤ, pos}
use borrow.Author.Tests.{lt-ltb, le-ltb, eq-eqb, ne_eqb}
use Rattle.logic.specs.Limits.{payloads}
use Rattle.logic.specs.Term.{Term, atom, var, sign, node, binds, under, size}
use Rattle.logic.specs.Move.{shift, occurs, free_from}
use Rattle.logic.specs.Reading.{Plain}
use Rattle.logic.specs.FreeVariables.{FreeLaws, FreeExamples}
use Rattle.logic.proofs.Basics.{compare_cases, left, right}
use Rattle.logic.proofs.Sub.{shift_below, shift_above}

pub free_below : {c n : ℕ} → n < c → free_from c (var n) ≡ 0
unfolding free_from
free_below {c} {n} h = rw (lt-ltb n c h)

pub free_above : {c n : ℕ} → c ≤ n → free_from c (var n) ≡ 1
unfolding free_from
free_above {c} {n} h = rw (le-ltb n c h)

-- from c on and from the next number on, the two differ by how often variable c occurs
pub free_occurs : (c : ℕ) (t : Term) → free_from c t ≡ free_from (suc c) t + occurs c t
unfolding free_from occurs
free_occurs c (atom a) = refl
free_occurs c (var n) = elim (compare_cases n c) [
  | inl l ↦ rw (lt-ltb n c l, lt-ltb n (suc c) (omega arith), ne_eqb n c (omega arith)) refl
  | inr (inl p) ↦ rw (le-ltb n c (omega arith), lt-ltb n (suc c) (omega arith), eq-eqb n c p) refl
  | inr (inr g) ↦ rw (le-ltb n c (omega arith), le-ltb n (suc c) (omega arith), ne_eqb n c (omega arith)) refl
]
free_occurs c (sign p q) = refl
free_occurs c (node o a b) =
    let ha = free_occurs c a in
    let hb = free_occurs (under (binds o) suc c) b in
    let hu : free_from (suc (under (binds o) suc c)) b ≡ free_from (under (binds o) suc (suc c)) b =
    elim (binds o) as (λ u. free_from (suc (under u suc c)) b ≡ free_from (under u suc (suc c)) b) [ true ↦ refl | false ↦ refl ] in
    omega arith

free_unused : (b : Term) → (occurs 0 b ≡ 0) ↔ (free_from 0 b ≡ free_from 1 b)
free_unused b = let h = free_occurs 0 b in (λ o. omega arith, λ e. omega arith)

-- no variable of a plain term is numbered so high
pub free_past : (c : ℕ) (t : Term) → payloads ≤ c → Plain t → free_from c t ≡ 0
unfolding free_from Plain
free_past c (atom a) l p = refl
free_past c (var n) l p = free_below {c = c} {n = n} (omega arith)
free_past c (sign n q) l p = refl
free_past c (node o a b) l p =
    let m : payloads ≤ under (binds o) suc c = elim (binds o) as (λ u. payloads ≤ under u suc c) [ true ↦ omega arith | false ↦ l ] in
    let x = free_past c a l p.0 in
    let y = free_past (under (binds o) suc c) b m p.1 in
    omega arith

-- where the count is 0 a shift leaves the term as it is
free_unmoved : (c : ℕ) (z : ℤ) (t : Term) → free_from c t ≡ 0 → shift c z t ≡ t
unfolding free_from shift
free_unmoved c z (atom a) h = refl
free_unmoved c z (var n) h = elim (dec_lt n c) [ yes l ↦ shift_below z l | no g ↦ let k = free_above {c = c} {n = n} (omega arith) in absurd (omega arith) ]
free_unmoved c z (sign p q) h = refl
free_unmoved c z (node o a b) h = ap₂ (node o) (free_unmoved c z a (omega arith)) (free_unmoved _ z b (omega arith))

-- and where a shift by one leaves it as it is the count is 0
unmoved_free : (c : ℕ) (t : Term) → shift c (pos 1) t ≡ t → free_from c t ≡ 0
unfolding free_from shift
unmoved_free c (atom a) h = refl
unmoved_free c (var n) h =
    elim (dec_lt n c) [ yes l ↦ free_below l | no g ↦ absurd (moves (sym (shift_above {c = c} {n = n} (pos 1) (omega arith)) ∙ h)) ]
  where
    number : {m k : ℕ} → var m ≡ var k → m ≡ k
    number e = cc

    moves : var (n + 1) ≡ var n → ⊥
    moves e = let p = number e in omega arith
unmoved_free c (sign p q) h = refl
unmoved_free c (node o a b) h = let ha = unmoved_free c a (left h) in let hb = unmoved_free (under (binds o) suc c) b (right h) in omega arith

-- no more than the term has words
pub free_size : (c : ℕ) (t : Term) → free_from c t ≤ size t
unfolding free_from size
free_size c (atom a) = omega arith
free_size c (var n) = elim (ltb n c) as (λ b. cond b 0 1 ≤ 1) [ true ↦ omega arith | false ↦ omega arith ]
free_size c (sign p q) = omega arith
free_size c (node o a b) = let x = free_size c a in let y = free_size (under (binds o) suc c) b in omega arith

-- a shift by 0 moves nothing
pub shift_zero : (c : ℕ) (t : Term) → shift c (pos 0) t ≡ t
unfolding shift
shift_zero c (atom a) = refl
shift_zero c (var n) =
    elim (dec_lt n c) [ yes l ↦ shift_below (pos 0) l | no g ↦ shift_above {c = c} {n = n} (pos 0) (omega arith) ∙ ap var (add-zero n) ]
shift_zero c (sign p q) = refl
shift_zero c (node o a b) = ap₂ (node o) (shift_zero c a) (shift_zero (under (binds o) suc c) b)

pub free_laws : FreeLaws
free_laws = record {
  differ = free_occurs 0;
  unused = free_unused;
  as_often = free_occurs;
  past_all = λ c t p. free_past (payloads + c) t (omega arith) p;
  unmoved = λ c t. (λ h z. free_unmoved c z t h, λ f. unmoved_free c t (f (pos 1)));
}

pub free_examples : FreeExamples
unfolding free_from occurs
free_examples = record {
  thrice = refl;
  from_1 = refl;
  from_2 = refl;
  from_3 = refl;
  no_variable = refl;
  bound = refl;
  next = refl;
  two_binders = refl;
  domain = refl;
  lam_domain = refl;
  proof_of_bind = refl;
  says = refl;
  app = refl;
  ret = refl;
  in_sign = refl;
  rule_string = refl;
  rule_principal = refl;
  rule_proof = refl;
  rule_closed = refl;
  p_rule = refl;
  p_closed = refl;
  r_closed = refl;
}
