-- The term that stands at a place, by its first word: a law of the nodes with an operation is one of any term that
-- begins with that operation's word.
use Prim.Native.Nat.{ℕ, ◌+◌}
use mathlib.Core.Path.{◌≡◌, refl, sym, ap, subst, ◌∙◌}
use mathlib.Core.Bool.{false}
use mathlib.Core.List.{List}
use mathlib.Core.Option.{Option, some, none}
use lib.Dec.{eqb}
use lib.ListN.{get_or}
use borrow.Author.Tests.{eqb-false}
use Rattle.logic.specs.Term.{Op, Term, atom, var, sign, node, op_word, size}
use Rattle.logic.specs.Reading.{branch, word_shape}
use Rattle.logic.specs.Infer.{Parts, parts}
use Rattle.logic.proofs.Basics.{clash}
use Rattle.logic.proofs.Conditions.{parts_some}
use Rattle.logic.proofs.Words.{head, shape_first, shape_op}
use Rattle.words.specs.Place.{At}
use Rattle.words.proofs.Places.{at_head, at_left, at_right}

module _ (P : Term → Type 0) (o : Op) where
  by_head : (t : Term) → head t ≡ branch o → ((a b : Term) → t ≡ node o a b → P (node o a b)) → P t
  by_head (atom a) e f = absurd (clash (cc))
  by_head (var n) e f = absurd (clash (cc))
  by_head (sign n q) e f = absurd (clash (cc))
  by_head (node o' a b) e f = let i : o' ≡ o = cc in subst (λ x. P (node x a b)) (sym i) (f a b (ap (λ x. node x a b) i))

  pub op_case : {ws : List ℕ} {at : ℕ} → get_or ws at 0 ≡ op_word o → ((a b : Term) → At ws at (node o a b) → P (node o a b)) →
      (t : Term) → At ws at t → P t
  op_case {ws} {at} e f t h =
      by_head t (sym (shape_first t h.plain) ∙ ap word_shape (sym (at_head h) ∙ e) ∙ shape_op o) λ a b i. f a b (subst (At ws at) i h)

-- a term that begins with another word is no such node
pub other_op : (o : Op) {ws : List ℕ} {at : ℕ} {t : Term} → At ws at t → eqb (get_or ws at 0) (op_word o) ≡ false → parts o t ≡ none
other_op o {ws} {at} {t} h n = go (parts o t) refl
  where
    go : (p : Option Parts) → parts o t ≡ p → p ≡ none
    go none e = refl
    go (some p) e = absurd (eqb-false _ _ n (at_head (subst (At ws at) (parts_some o t e) h)))

-- ---- places

-- n is where the term ends that stands at a place
abbrev pub EndsAt : List ℕ → (at n : ℕ) → Type 0
EndsAt ws at n = (t : Term) → At ws at t → n ≡ at + size t

pub place_is_at : {ws : List ℕ} {i : ℕ} {t : Term} (j : ℕ) → i ≡ j → At ws i t → At ws j t
place_is_at {ws} {t = t} j e h = subst (λ (k : ℕ). At ws k t) e h

-- the second child of a node stands where the first ends
pub second_child_at : {ws : List ℕ} {at n : ℕ} {o : Op} {a b : Term} → At ws at (node o a b) → EndsAt ws (at + 1) n → At ws n b
second_child_at {n = n} h k = place_is_at n (sym (k _ (at_left h))) (at_right h)
