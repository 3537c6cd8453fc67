-- The class and the tag of a term's first word.
use Prim.Native.Nat.{ℕ, ◌<◌}
use native.Mathlib.Omega.{arith}
use mathlib.Core.Path.{◌≡◌, refl, ap}
use mathlib.Core.Bool.{Bool, true, false, cond}
use Rattle.logic.specs.Limits.{payloads}
use Rattle.logic.specs.Tags.{tag_prop, tag_type, tag_string, tag_prin, tag_variable, tag_constant, tag_says, tag_pi, tag_lam, tag_app}
use Rattle.logic.specs.Tags.{tag_text, tag_name, tag_sign, tag_ret, tag_bind, tag_kindP, tag_kindT}
use Rattle.logic.specs.Term.{propA, typeA, stringA, prinA, kindPA, kindTA, constA, textA, nameA, Op, saysO, piO, lamO, appO, retO, bindO}
use Rattle.logic.specs.Term.{binds, Term, atom, var, sign, node, word, tag_of, first_word}
use Rattle.logic.specs.Reading.{word_shape, Plain, InRange}
use Rattle.logic.specs.Kind.{op_class, shape_class}
use Rattle.logic.specs.declared.word.Class.{Class}
use Rattle.logic.specs.declared.word.Class.TheVariants.{Sign, Node, Binder}
use mathlib.Core.Logic.{◌⊎◌, inl, inr}
use Rattle.logic.proofs.Words.{head, shape_first}

-- ---- the class of a term

abbrev pub term_class : Term → Class
term_class t = shape_class (head t)

pub head_class : (t : Term) → Plain t → shape_class (word_shape (first_word t)) ≡ term_class t
head_class t p = ap shape_class (shape_first t p)

-- a node's first word is of one of two classes
pub op_classes : (o : Op) → (op_class o ≡ Node) ⊎ (op_class o ≡ Binder)
op_classes o = go (binds o)
  where
    go : (b : Bool) → (cond b Binder Node ≡ Node) ⊎ (cond b Binder Node ≡ Binder)
    go true = inr refl
    go false = inl refl

pub op_neither : (o : Op) → (op_class o ≡ Node → ⊥) → (op_class o ≡ Binder → ⊥) → ⊥
op_neither o n b = elim (op_classes o) [ inl e ↦ n e | inr e ↦ b e ]

-- a class that no node's first word has
pub op_other : (o : Op) (k : Class) → (k ≡ Node → ⊥) → (k ≡ Binder → ⊥) → op_class o ≡ k → ⊥
op_other o k n b e = op_neither o (λ f. n (cc)) (λ f. b (cc))

pub op_sign : (o : Op) → op_class o ≡ Sign → ⊥
op_sign o = op_other o Sign (λ e. cc) (λ e. cc)

-- ---- the tag of a term's first word

abbrev pub term_tag : Term → ℕ
term_tag (atom propA) = tag_prop
term_tag (atom typeA) = tag_type
term_tag (atom stringA) = tag_string
term_tag (atom prinA) = tag_prin
term_tag (atom kindPA) = tag_kindP
term_tag (atom kindTA) = tag_kindT
term_tag (atom (constA n)) = tag_constant
term_tag (atom (textA n)) = tag_text
term_tag (atom (nameA n)) = tag_name
term_tag (var n) = tag_variable
term_tag (sign n q) = tag_sign
term_tag (node saysO a b) = tag_says
term_tag (node piO a b) = tag_pi
term_tag (node lamO a b) = tag_lam
term_tag (node appO a b) = tag_app
term_tag (node retO a b) = tag_ret
term_tag (node bindO a b) = tag_bind

tag_word : (tag n : ℕ) → n < payloads → tag_of (word tag n) ≡ tag
tag_word tag n h = omega arith

pub tag_first : (t : Term) → InRange t → tag_of (first_word t) ≡ term_tag t
unfolding InRange
tag_first (atom propA) p = refl
tag_first (atom typeA) p = refl
tag_first (atom stringA) p = refl
tag_first (atom prinA) p = refl
tag_first (atom kindPA) p = refl
tag_first (atom kindTA) p = refl
tag_first (atom (constA n)) p = tag_word tag_constant n p
tag_first (atom (textA n)) p = tag_word tag_text n p
tag_first (atom (nameA n)) p = tag_word tag_name n p
tag_first (var n) p = tag_word tag_variable n p
tag_first (sign n q) p = tag_word tag_sign n p.0
tag_first (node saysO a b) p = refl
tag_first (node piO a b) p = refl
tag_first (node lamO a b) p = refl
tag_first (node appO a b) p = refl
tag_first (node retO a b) p = refl
tag_first (node bindO a b) p = refl
