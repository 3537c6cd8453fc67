-- The term that stands at a place, by the class that the code found: a law of the terms of that class is one of any term
-- that stands there. And answers that are given where a test passes.
use Prim.Native.Nat.{ℕ, suc, ◌+◌, ◌≤◌}
use native.Mathlib.Omega.{arith}
use mathlib.Core.Path.{◌≡◌, refl, sym, ap, subst, ◌∙◌}
use mir.Val.{bool_byte}
use denote.Enum.Bare.{sameb, same_false}
use Rattle.logic.specs.contracts.word.Class.{the_type}
use mathlib.Core.Logic.{◌⊎◌, inl, inr}
use mathlib.Core.Bool.{Bool, true, false, cond}
use mathlib.Core.List.{List}
use mathlib.Core.Option.{some, none}
use lib.ListN.{get_or}
use Rattle.logic.specs.Term.{Term, atom, var, sign, node, Op, binds, under}
use Rattle.logic.specs.Term.{Atom as Leaf}
use Rattle.logic.specs.Reading.{word_shape}
use Rattle.logic.specs.Kind.{op_class, shape_class}
use Rattle.logic.specs.declared.word.Class.{Class}
use Rattle.logic.specs.declared.word.Class.TheVariants.{Atom, Variable, Sign, Node, Binder}
use Rattle.logic.proofs.Basics.{clash, some_inj}
use Rattle.logic.proofs.Shapes.{op_neither, op_other}
use Rattle.words.specs.Place.{At}
use Rattle.words.proofs.Places.{class_at, Halves, halves}

-- a class that is of no leaf and no Sign
pub record NotLeaf (k : Class) : Type 0 where
  pub no_atom : k ≡ Atom → ⊥
  pub no_variable : k ≡ Variable → ⊥
  pub no_sign : k ≡ Sign → ⊥

module _ (P : Term → Type 0) {ws : List ℕ} {at : ℕ} {k : Class} (found : k ≡ shape_class (word_shape (get_or ws at 0))) where
  pub cases : ((a : Leaf) → k ≡ Atom → At ws at (atom a) → P (atom a))
      → ((n : ℕ) → k ≡ Variable → At ws at (var n) → P (var n))
      → ((n : ℕ) (q : Term) → k ≡ Sign → At ws at (sign n q) → P (sign n q))
      → ((o : Op) (a b : Term) → op_class o ≡ k → At ws at (node o a b) → P (node o a b))
      → (t : Term) → At ws at t → P t
  cases f g s i (atom a) h = f a (sym (class_at found h)) h
  cases f g s i (var n) h = g n (sym (class_at found h)) h
  cases f g s i (sign n q) h = s n q (sym (class_at found h)) h
  cases f g s i (node o a b) h = i o a b (class_at found h) h

  pub atom_case : k ≡ Atom → ((a : Leaf) → At ws at (atom a) → P (atom a)) → (t : Term) → At ws at t → P t
  atom_case e f = cases (λ a q h. f a h) (λ n q h. absurd (cc)) (λ n u q h. absurd (cc))
      (λ o a b q h. absurd (op_other o Atom (λ x. cc) (λ x. cc) (q ∙ e)))

  pub variable_case : k ≡ Variable → ((n : ℕ) → At ws at (var n) → P (var n)) → (t : Term) → At ws at t → P t
  variable_case e f = cases (λ a q h. absurd (cc)) (λ n q h. f n h) (λ n u q h. absurd (cc))
      (λ o a b q h. absurd (op_other o Variable (λ x. cc) (λ x. cc) (q ∙ e)))

  pub sign_case : k ≡ Sign → ((n : ℕ) (q : Term) → At ws at (sign n q) → P (sign n q)) → (t : Term) → At ws at t → P t
  sign_case e f = cases (λ a q h. absurd (cc)) (λ n q h. absurd (cc)) (λ n u q h. f n u h)
      (λ o a b q h. absurd (op_other o Sign (λ x. cc) (λ x. cc) (q ∙ e)))

  pub node_case : NotLeaf k → ((o : Op) (a b : Term) → op_class o ≡ k → At ws at (node o a b) → P (node o a b)) → (t : Term) → At ws at t → P t
  node_case n f = cases (λ a q h. absurd (n.no_atom q)) (λ m q h. absurd (n.no_variable q)) (λ m u q h. absurd (n.no_sign q)) f

  -- an atom or a Sign
  pub kept_case : (k ≡ Variable → ⊥) → (k ≡ Node → ⊥) → (k ≡ Binder → ⊥) → ((a : Leaf) → At ws at (atom a) → P (atom a))
      → ((n : ℕ) (q : Term) → At ws at (sign n q) → P (sign n q)) → (t : Term) → At ws at t → P t
  kept_case v n b f g = cases (λ a q h. f a h) (λ m q h. absurd (v q)) (λ m u q h. g m u h)
      (λ o x y q h. absurd (op_neither o (λ e. n (sym q ∙ e)) (λ e. b (sym q ∙ e))))

-- ---- a node

pub node_class : {k : Class} → (k ≡ Node) ⊎ (k ≡ Binder) → NotLeaf k
node_class e = record {
  no_atom = λ x. go Atom e x (λ y. cc) (λ y. cc);
  no_variable = λ x. go Variable e x (λ y. cc) (λ y. cc);
  no_sign = λ x. go Sign e x (λ y. cc) (λ y. cc);
}
  where
    go : {k : Class} (l : Class) → (k ≡ Node) ⊎ (k ≡ Binder) → k ≡ l → (l ≡ Node → ⊥) → (l ≡ Binder → ⊥) → ⊥
    go l (inl x) q n b = n (sym q ∙ x)
    go l (inr x) q n b = b (sym q ∙ x)

pub rest_class : {k : Class} → false ≡ sameb the_type k Atom → (k ≡ Variable → ⊥) → (k ≡ Sign → ⊥) → NotLeaf k
rest_class a v s = record { no_atom = same_false the_type _ _ (sym a); no_variable = v; no_sign = s }

pub children_at : {ws : List ℕ} {at : ℕ} {k : Class} {t : Term} → k ≡ shape_class (word_shape (get_or ws at 0)) → NotLeaf k → At ws at t → Halves ws at k t
children_at found n h = halves _ _ _ _ h (class_at found h) n.no_atom n.no_variable n.no_sign

pub bit : (b : Bool) → bool_byte b ≤ 1
bit true = omega arith
bit false = omega arith

-- the binders that a second child stands under
pub deeper : {k : Class} (o : Op) (c : ℕ) {b : Bool} {n : ℕ} → op_class o ≡ k → b ≡ sameb the_type k Binder → n ≡ bool_byte b → c + n ≡ under (binds o) suc c
deeper {k} o c {b} {n} e i j = go (binds o) (subst (λ (x : Class). b ≡ sameb the_type x Binder) (sym e) i)
  where
    go : (u : Bool) → b ≡ sameb the_type (cond u Binder Node) Binder → c + n ≡ under u suc c
    go true x = let y : n ≡ 1 = j ∙ ap bool_byte x in omega arith
    go false x = let y : n ≡ 0 = j ∙ ap bool_byte x in omega arith

-- ---- answers

pub cond_given : {X : Type 0} (b : Bool) (x : X) {y : X} → some y ≡ cond b (some x) none → (b ≡ true) × (y ≡ x)
cond_given true x e = (refl, some_inj e)
cond_given false x e = absurd (clash (cc))

pub cond_not_given : {X : Type 0} (b : Bool) (x : X) → none ≡ cond b (some x) none → b ≡ false
cond_not_given true x e = absurd (clash (cc))
cond_not_given false x e = refl
