-- The check of a node is the one rule of specs/Rule of crate `rules`.
use Prim.Native.Nat.{ℕ, ◌+◌}
use mathlib.Core.Path.{◌≡◌, refl, ap, fun_ext}
use mathlib.Core.List.{List}
use mathlib.Core.Option.{Option, some, none}
use Rattle.logic.specs.Refusals.{condition_fails, not_a_function}
use Rattle.logic.specs.Result.{Result, ok, ◌>>=◌, ◌>>◌, known}
use Rattle.logic.specs.Term.{Op, saysO, piO, lamO, appO, retO, bindO, Term, atom, var, sign, node, size, Op-discrete}
use Rattle.logic.specs.Infer.{infer, Parts, parts}
use Rattle.rules.specs.Rule.{first_child, second_child, ready, within, node_type}

-- the rule of a node whose first child a has the type A
abbrev pub node_rule : List Term → List Term → ℕ → Op → (a b A : Term) → Result Term
node_rule Σ Γ at o a b A = ready o at A >> (infer Σ (within o a A Γ) (at + 1 + size a) b >>= λ B. node_type o at a b A B)

-- what goes on with the parts of a term goes on with its children
abbrev then_parts : ℕ → ℕ → (Term → Term → Result Term) → Option Parts → Result Term
then_parts m at k o = known m at o >>= λ p. k p.left p.right

abbrev then_children : ℕ → ℕ → Result Term → Option Parts → Result Term
then_children m at r o = (known m at o >> ok (tt {0})) >> r

with_parts : (o : Op) (t : Term) (m at : ℕ) (k : Term → Term → Result Term)
    → then_parts m at k (parts o t) ≡ then_children m at (k (first_child t) (second_child t)) (parts o t)
with_parts o (atom a) m at k = refl
with_parts o (var n) m at k = refl
with_parts o (sign n q) m at k = refl
with_parts o (node h a b) m at k = go (Op-discrete o h)
  where
    go : (d : Dec (o ≡ h)) → then_parts m at k (elim d as (λ u. Option Parts) [ yes _ ↦ some (record { left = a; right = b }) | no _ ↦ none ])
        ≡ then_children m at (k a b) (elim d as (λ u. Option Parts) [ yes _ ↦ some (record { left = a; right = b }) | no _ ↦ none ])
    go (yes e) = refl
    go (no e) = refl

module _ (Σ Γ : List Term) (at : ℕ) where
  pub uniform : (o : Op) (a b : Term) → infer Σ Γ at (node o a b) ≡ (infer Σ Γ (at + 1) a >>= λ A. node_rule Σ Γ at o a b A)
  unfolding infer ready node_type
  uniform saysO a b = refl
  uniform piO a b = refl
  uniform lamO a b = refl
  uniform appO a b = ap (λ k. infer Σ Γ (at + 1) a >>= k) (fun_ext λ A. with_parts piO A not_a_function at _)
  uniform retO a b = refl
  uniform bindO a b = ap (λ k. infer Σ Γ (at + 1) a >>= k) (fun_ext λ A. with_parts saysO A condition_fails at _)
