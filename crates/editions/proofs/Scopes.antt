-- The names in scope: what a variable of a node's second child means there, it means by the node itself or by the names
-- outside, and so does what it becomes.
use Prim.Native.Nat.{ℕ, zero, suc, ◌<◌}
use mathlib.Core.Path.{◌≡◌, refl, sym, ap, ◌∙◌}
use mathlib.Core.Logic.{◌⊎◌, inl, inr}
use mathlib.Core.Bool.{Bool, true, false}
use mathlib.Core.List.{List, [], ◌∷◌}
use mathlib.Core.Option.{Option, some, none}
use lib.Dec.{eqb}
use lib.ListN.{length, get_elem?}
use borrow.Author.Tests.{eqb-true, eqb-false, eq-eqb, ne_eqb}
use native.Mathlib.Omega.{arith}
use Rattle.logic.specs.Term.{under}
use Rattle.logic.proofs.Basics.{clash}
use Rattle.editions.specs.Named.{Label}
use Rattle.editions.specs.Edition.{other}
use Rattle.editions.specs.Convert.{one_more, nearest, meaning, enter, relabel, upto, ScopeOf}
use Rattle.editions.specs.Binders.{IsBinder, Frees}
use Rattle.editions.specs.declared.Edition.{Edition}
use Rattle.editions.specs.declared.Edition.TheVariants.{Counts, Names}

-- ---- the nearest binder

pub nearest_here : (x y : ℕ) (ns : List ℕ) → x ≡ y → nearest x (y ∷ ns) ≡ some 0
unfolding nearest
nearest_here x y ns e = rw (eq-eqb x y e) refl

pub nearest_there : (x y : ℕ) (ns : List ℕ) → (x ≡ y → ⊥) → nearest x (y ∷ ns) ≡ one_more (nearest x ns)
unfolding nearest
nearest_there x y ns d = rw (ne_eqb x y d) refl

more_is : (o : Option ℕ) (k : ℕ) → one_more o ≡ some k → (m : ℕ) × (o ≡ some m) × (k ≡ suc m)
more_is none k e = absurd (clash (cc))
more_is (some n) k e = let h : suc n ≡ k = cc in (n, refl, sym h)

equal? : (x y : ℕ) → (x ≡ y) ⊎ (x ≡ y → ⊥)
equal? x y = go (eqb x y) refl
  where
    go : (b : Bool) → eqb x y ≡ b → (x ≡ y) ⊎ (x ≡ y → ⊥)
    go true e = inl (eqb-true x y e)
    go false e = inr (eqb-false x y e)

-- ---- the names that a conversion has in scope

pub entered : (b : Bool) (l : Label b) (ns : List ℕ) → length (enter Counts b l ns) ≡ under b suc (length ns)
entered true l ns = refl
entered false l ns = refl

pub enter_scope : (e : Edition) (b : Bool) (l : Label b) (ns : List ℕ) → ScopeOf e ns → ScopeOf e (enter e b l ns)
unfolding upto
enter_scope Names true x ns h = tt
enter_scope Names false l ns h = tt
enter_scope Counts true x ns h = ap (λ (ms : List ℕ). length ns ∷ ms) h
enter_scope Counts false l ns h = h

pub no_names : (e : Edition) → ScopeOf e []
unfolding upto
no_names Names = tt
no_names Counts = refl

-- the name that a count becomes is below the number of names, and means this count
pub named_back : (ns : List ℕ) (n y : ℕ) → ScopeOf Counts ns → get_elem? ns n ≡ some y → (y < length ns) × (nearest y ns ≡ some n)
unfolding upto nearest
named_back [] n y h e = absurd (clash (cc))
named_back (x ∷ ns) zero y h e = let k : x ≡ length ns = cc in let z : y ≡ x = cc in (omega arith, rw (eq-eqb y x z) refl)
named_back (x ∷ ns) (suc n) y h e =
    let k : x ≡ length ns = cc in
    let (l, m) = named_back ns n y (cc) e in
    (omega arith, rw (ne_eqb y x (omega arith)) (ap one_more m))

nearest_below : (x : ℕ) (ns : List ℕ) (k : ℕ) → nearest x ns ≡ some k → k < length ns
unfolding nearest
nearest_below x [] k e = absurd (clash (cc))
nearest_below x (y ∷ ns) k e = elim (equal? x y) [
  | inl c ↦ (let z : some 0 ≡ some k = sym (nearest_here x y ns c) ∙ e in let w : 0 ≡ k = cc in omega arith)
  | inr d ↦ (let (m, f, g) = more_is (nearest x ns) k (sym (nearest_there x y ns d) ∙ e) in let l = nearest_below x ns m f in omega arith)
]

-- what a variable becomes is below the number of names
pub meaning_below : (e : Edition) (ns : List ℕ) (r k : ℕ) → ScopeOf e ns → meaning e r ns ≡ some k → k < length ns
meaning_below Names ns r k h m = nearest_below r ns k m
meaning_below Counts ns r k h m = (named_back ns r k h m).0

-- ---- what a variable of a node's second child means

-- by the names outside: r outside is r', and what it becomes, k, is k' outside
pub record Outside (e : Edition) (b : Bool) (l : Label b) (ns : List ℕ) (r k : ℕ) : Type 0 where
  pub r' : ℕ
  pub k' : ℕ
  pub frees : Frees e b l r r'
  pub frees_other : Frees (other e) b (relabel e b ns) k k'
  pub means : meaning e r' ns ≡ some k'

-- by the node itself, and so does what it becomes; or by the names outside
pub means_cases : (e : Edition) (b : Bool) (l : Label b) (ns : List ℕ) (r k : ℕ) → ScopeOf e ns → meaning e r (enter e b l ns) ≡ some k →
    (IsBinder e b l r × IsBinder (other e) b (relabel e b ns) k) ⊎ Outside e b l ns r k
means_cases Names false l ns r k h m = inr (record { r' = r; k' = k; frees = refl; frees_other = refl; means = m })
means_cases Counts false l ns r k h m = inr (record { r' = r; k' = k; frees = refl; frees_other = refl; means = m })
means_cases Names true y ns x k h m = elim (equal? x y) [
  | inl c ↦ (let z : some 0 ≡ some k = sym (nearest_here x y ns c) ∙ m in let w : 0 ≡ k = cc in inl (c, sym w))
  | inr d ↦ (let (j, e, f) = more_is (nearest x ns) k (sym (nearest_there x y ns d) ∙ m) in
      inr (record { r' = x; k' = j; frees = (d, refl); frees_other = f; means = e }))
]
means_cases Counts true y ns zero k h m = let z : length ns ≡ k = cc in inl (refl, sym z)
means_cases Counts true y ns (suc n) k h m =
    let l = (named_back ns n k h m).0 in
    inr (record { r' = n; k' = k; frees = refl; frees_other = ((λ e. omega arith), refl); means = m })

-- what a node binds, its second child sees; what it leaves free and is seen outside, too
pub binds_means : (e : Edition) (b : Bool) (l : Label b) (ns : List ℕ) (r : ℕ) → IsBinder e b l r → (k : ℕ) × (meaning e r (enter e b l ns) ≡ some k)
binds_means Names false l ns r c = absurd c
binds_means Counts false l ns r c = absurd c
binds_means Names true y ns x c = (0, nearest_here x y ns c)
binds_means Counts true y ns n c = (length ns, ap (get_elem? (length ns ∷ ns)) c)

pub frees_means : (e : Edition) (b : Bool) (l : Label b) (ns : List ℕ) (r r' k : ℕ) → Frees e b l r r' → meaning e r' ns ≡ some k →
    (j : ℕ) × (meaning e r (enter e b l ns) ≡ some j)
frees_means Names false l ns r r' k f m = (k, ap (λ x. nearest x ns) f ∙ m)
frees_means Counts false l ns r r' k f m = (k, ap (get_elem? ns) f ∙ m)
frees_means Names true y ns x x' k f m = (suc k, nearest_there x y ns f.0 ∙ ap one_more (ap (λ z. nearest z ns) f.1 ∙ m))
frees_means Counts true y ns n n' k f m = (k, ap (get_elem? (length ns ∷ ns)) f ∙ m)

pub none_means : (e : Edition) (r k : ℕ) → meaning e r [] ≡ some k → ⊥
unfolding nearest
none_means Names r k m = clash (cc)
none_means Counts r k m = clash (cc)

-- a node does not bind what it leaves free, and a variable is one thing outside
pub frees_apart : (e : Edition) (b : Bool) (l : Label b) (r r' : ℕ) → Frees e b l r r' → IsBinder e b l r → ⊥
frees_apart Names false l r r' f c = c
frees_apart Counts false l r r' f c = c
frees_apart Names true y x x' f c = f.0 c
frees_apart Counts true y n n' f c = omega arith

pub frees_once : (e : Edition) (b : Bool) (l : Label b) (r x y : ℕ) → Frees e b l r x → Frees e b l r y → x ≡ y
frees_once Names false l r x y f g = omega arith
frees_once Counts false l r x y f g = omega arith
frees_once Names true z r x y f g = sym f.1 ∙ g.1
frees_once Counts true z r x y f g = omega arith

-- what is seen outside a node is one variable of its second child
pub frees_from : (e : Edition) (b : Bool) (l : Label b) (x y r : ℕ) → Frees e b l x r → Frees e b l y r → x ≡ y
frees_from Names false l x y r f g = omega arith
frees_from Counts false l x y r f g = omega arith
frees_from Names true z x y r f g = f.1 ∙ sym g.1
frees_from Counts true z x y r f g = omega arith
