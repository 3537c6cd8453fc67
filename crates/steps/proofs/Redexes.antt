-- Where the first step is taken, as the code finds it: by the first word of a term, that of its first child, and the use
-- of a Bind's variable.
use Prim.Native.Nat.{ℕ, ◌+◌, ◌≤◌, ◌<◌}
use native.Mathlib.Omega.{arith}
use mathlib.Core.Path.{◌≡◌, refl, sym, ap, ◌∙◌}
use mathlib.Core.Logic.{◌⊎◌, inl, inr}
use mathlib.Core.Bool.{Bool, true, false}
use mathlib.Core.List.{List}
use mathlib.Core.Option.{Option, some, none}
use lib.Dec.{eqb}
use lib.ListN.{get_or}
use borrow.Author.Tests.{eqb-true, eqb-false, eq-eqb, ne_eqb}
use Rattle.logic.specs.Limits.{payloads}
use Rattle.logic.specs.Term.{Op, saysO, piO, lamO, appO, retO, bindO, Term, atom, var, sign, node, App, Bind, op_word, size}
use Rattle.logic.specs.Move.{occurs, free_from}
use Rattle.logic.specs.Reading.{or_else}
use Rattle.logic.proofs.FreeVariables.{free_occurs}
use Rattle.words.specs.Place.{At}
use Rattle.words.proofs.Places.{at_head, at_left}
use Rattle.steps.specs.Redex.{TermWithRoom, first_place}
use Rattle.steps.proofs.Heads.{op_case, other_op, EndsAt, second_child_at}

-- ---- the children of a node that is searched

pub record NodeHere (ws : List ℕ) (at len : ℕ) (o : Op) : Type 0 where
  pub a : Term
  pub b : Term
  pub here : At ws at (node o a b)
  pub few : size a + size b < payloads
  pub room : size a + size b < len

pub node_here : {ws : List ℕ} {at len : ℕ} (o : Op) → get_or ws at 0 ≡ op_word o → TermWithRoom ws at len → NodeHere ws at len o
unfolding size
node_here {ws} {at} {len} o e s = op_case (λ t. size t ≤ payloads → size t ≤ len → NodeHere ws at len o) o e
    (λ a b h l m. record { a = a; b = b; here = h; few = omega arith; room = omega arith }) s.term s.here s.few s.room

-- they are searched in turn, with a scratch list of the same length
module _ {ws : List ℕ} {at len m : ℕ} {o : Op} (n : NodeHere ws at len o) (e : m ≡ len) where
  pub first_searchable : TermWithRoom ws (at + 1) m
  first_searchable = record { term = n.a; here = at_left n.here; few = omega (arith, n.few); room = omega (arith, n.room) }

  pub second_searchable : {next : ℕ} → EndsAt ws (at + 1) next → TermWithRoom ws next m
  second_searchable k = record { term = n.b; here = second_child_at n.here k; few = omega (arith, n.few); room = omega (arith, n.room) }

-- ---- a body's uses of its binder

pub same_counts : (b : Term) (x y : ℕ) → x ≡ free_from 0 b → y ≡ free_from 1 b → eqb x y ≡ eqb (occurs 0 b) 0
same_counts b x y e f = go (eqb (occurs 0 b) 0) refl
  where
    go : (z : Bool) → eqb (occurs 0 b) 0 ≡ z → eqb x y ≡ z
    go true i = eq-eqb x y (let d = free_occurs 0 b in let n = eqb-true (occurs 0 b) 0 i in omega arith)
    go false i = ne_eqb x y λ q. eqb-false (occurs 0 b) 0 i (let d = free_occurs 0 b in omega arith)

-- ---- the first place

-- r is the answer for any term that stands there
abbrev pub FindsPlace : List ℕ → ℕ → Option ℕ → Type 0
FindsPlace ws at r = (t : Term) → At ws at t → r ≡ first_place at t

or_none : (x : Option ℕ) → x ≡ or_else x none
or_none none = refl
or_none (some p) = refl

module _ {ws : List ℕ} {at : ℕ} where
  -- App of a Lam, and any other App
  pub place_app_lam : get_or ws at 0 ≡ op_word appO → eqb (get_or ws (at + 1) 0) (op_word lamO) ≡ true → FindsPlace ws at (some at)
  unfolding first_place
  place_app_lam e i = op_case (λ t. some at ≡ first_place at t) appO e
      λ f x h. op_case (λ f. some at ≡ first_place at (App f x)) lamO (eqb-true _ _ i) (λ d b k. refl) f (at_left h)

  pub place_app : {r : Option ℕ} → get_or ws at 0 ≡ op_word appO → eqb (get_or ws (at + 1) 0) (op_word lamO) ≡ false → FindsPlace ws (at + 1) r →
      FindsPlace ws at r
  unfolding first_place
  place_app {r} e i g = op_case (λ t. r ≡ first_place at t) appO e
      λ f x h. let n = other_op lamO (at_left h) i in rw n (g f (at_left h) ∙ or_none (first_place (at + 1) f))

  -- Bind of a Ret, and any other Bind
  pub place_bind_ret : get_or ws at 0 ≡ op_word bindO → eqb (get_or ws (at + 1) 0) (op_word retO) ≡ true → FindsPlace ws at (some at)
  unfolding first_place
  place_bind_ret e i = op_case (λ t. some at ≡ first_place at t) bindO e
      λ x b h. op_case (λ x. some at ≡ first_place at (Bind x b)) retO (eqb-true _ _ i) (λ a y k. refl) x (at_left h)

  module _ {body : ℕ} (e : get_or ws at 0 ≡ op_word bindO) (i : eqb (get_or ws (at + 1) 0) (op_word retO) ≡ false) (k : EndsAt ws (at + 1) body) where
    pub place_unused : ((b : Term) → At ws body b → true ≡ eqb (occurs 0 b) 0) → FindsPlace ws at (some at)
    unfolding first_place
    place_unused u = op_case (λ t. some at ≡ first_place at t) bindO e
        λ x b h. let n = other_op retO (at_left h) i in let z = sym (u b (second_child_at h k)) in rw (n, z) refl

    place_used : ((b : Term) → At ws body b → false ≡ eqb (occurs 0 b) 0) → {r : Option ℕ} →
        ((x b : Term) → At ws at (Bind x b) → r ≡ or_else (first_place (at + 1) x) (first_place (at + 1 + size x) b)) → FindsPlace ws at r
    unfolding first_place
    place_used u {r} g = op_case (λ t. r ≡ first_place at t) bindO e
        λ x b h. let n = other_op retO (at_left h) i in let z = sym (u b (second_child_at h k)) in rw (n, z) (g x b h)

    module _ (u : (b : Term) → At ws body b → false ≡ eqb (occurs 0 b) 0) where
      pub place_bound : {r : Option ℕ} {p : ℕ} → r ≡ some p → FindsPlace ws (at + 1) r → FindsPlace ws at r
      place_bound q g = place_used u λ x b h. q ∙ ap (λ y. or_else y (first_place (at + 1 + size x) b)) (sym q ∙ g x (at_left h))

      pub place_rest : {r s : Option ℕ} → r ≡ none → FindsPlace ws (at + 1) r → FindsPlace ws body s → FindsPlace ws at s
      place_rest q g f = place_used u λ x b h. f b (second_child_at h k) ∙ ap (λ (j : ℕ). first_place j b) (k x (at_left h))
          ∙ ap (λ y. or_else y (first_place (at + 1 + size x) b)) (sym q ∙ g x (at_left h))

  -- Lam and Ret
  pub place_second : {r : Option ℕ} {next : ℕ} → (get_or ws at 0 ≡ op_word lamO) ⊎ (get_or ws at 0 ≡ op_word retO) → EndsAt ws (at + 1) next →
      FindsPlace ws next r → FindsPlace ws at r
  unfolding first_place
  place_second {r} e k f = elim e [
    | inl e ↦ op_case (λ t. r ≡ first_place at t) lamO e λ a b h. f b (second_child_at h k) ∙ ap (λ (j : ℕ). first_place j b) (k a (at_left h))
    | inr e ↦ op_case (λ t. r ≡ first_place at t) retO e λ a b h. f b (second_child_at h k) ∙ ap (λ (j : ℕ). first_place j b) (k a (at_left h))
  ]

  -- no other term
  pub place_none : (get_or ws at 0 ≡ op_word appO → ⊥) → (get_or ws at 0 ≡ op_word bindO → ⊥) → (get_or ws at 0 ≡ op_word lamO → ⊥) →
      (get_or ws at 0 ≡ op_word retO → ⊥) → FindsPlace ws at none
  unfolding first_place
  place_none n m k l (atom a) h = refl
  place_none n m k l (var x) h = refl
  place_none n m k l (sign x q) h = refl
  place_none n m k l (node saysO a b) h = refl
  place_none n m k l (node piO a b) h = refl
  place_none n m k l (node lamO a b) h = absurd (k (at_head h))
  place_none n m k l (node appO a b) h = absurd (n (at_head h))
  place_none n m k l (node retO a b) h = absurd (l (at_head h))
  place_none n m k l (node bindO a b) h = absurd (m (at_head h))
