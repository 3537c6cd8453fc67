-- The principal that is drawn.
use Rattle.std.proofs.Common.{◌≡◌, ℕ, Bool, true, false, cond, eqb, ◌≢◌, refl, sym, ap, max, ne_eqb, arith}
use borrow.Author.Tests.{eqb-true, eqb-false}
use Rattle.load.specs.Load.{principal_from}

-- one that is not 0
pub principal_other : (x : ℕ) → x ≢ 0 → x ≡ principal_from x
principal_other x n = ap (λ b. cond b 1 x) (sym (ne_eqb x 0 n))

-- the code takes the greater of it and 1
pub greater_is : (x : ℕ) → max x 1 ≡ principal_from x
greater_is x = go (eqb x 0) refl
  where
    go : (b : Bool) → eqb x 0 ≡ b → max x 1 ≡ cond b 1 x
    go true e = let h : x ≡ 0 = eqb-true x 0 e in omega arith
    go false e = let h : x ≢ 0 = eqb-false x 0 e in omega arith
