-- Conversion is refused exactly at the first variable that has no binder.
use Prim.Native.Nat.{ℕ, suc, ◌+◌, ◌<◌}
use mathlib.Core.Path.{◌≡◌, refl, sym, ap, ap₂, subst, ◌∙◌}
use mathlib.Core.Logic.{◌↔◌, inl, inr}
use mathlib.Core.List.{List, []}
use mathlib.Core.Option.{Option, some, none}
use native.Mathlib.Omega.{arith}
use Rattle.logic.specs.Refusals.{unbound}
use Rattle.logic.specs.Result.{Result, ok, refused, ◌>>=◌, known}
use Rattle.logic.specs.Term.{Atom, Op, binds}
use Rattle.logic.proofs.Basics.{clash, compare_cases}
use Rattle.editions.specs.Named.{Label, Named, atom', var', sign', node', size'}
use Rattle.editions.specs.Convert.{meaning, enter, relabel, convert, ScopeOf}
use Rattle.editions.specs.Binders.{VariableAt, variable, variable_signed, variable_first, variable_second, FreeAt, free, free_first, free_second}
use Rattle.editions.specs.Binders.{BinderAt, binder, binder_signed, binder_first, binder_second, FirstUnbound}
use Rattle.editions.specs.Refuses.{AllBound}
use Rattle.editions.specs.declared.Edition.{Edition}
use Rattle.editions.proofs.Binders.{free_within, binder_within}
use Rattle.editions.proofs.Scopes.{enter_scope, no_names, means_cases, binds_means, frees_means, none_means}

-- ---- where a variable can stand

pub variable_within : {r i : ℕ} {s : Named} → VariableAt r i s → i < size' s
unfolding size'
variable_within variable = omega arith
variable_within (variable_signed h) = let l = variable_within h in omega arith
variable_within (variable_first h) = let l = variable_within h in omega arith
variable_within (variable_second h) = let l = variable_within h in omega arith

-- the variable at the word i has a binder in the term, or among those outside, whose names are ns
data BoundIn (e : Edition) (ns : List ℕ) (s : Named) (i : ℕ) : Type 0 where
  inside : {n j : ℕ} → BinderAt e n j s → n ≡ i → BoundIn e ns s i
  outside : {n r k : ℕ} → FreeAt e r n s → meaning e r ns ≡ some k → n ≡ i → BoundIn e ns s i

-- ---- from a child to its parent, and back

signed_up : {e : Edition} {p i : ℕ} {q : Named} (ns : List ℕ) → BoundIn e [] q i → BoundIn e ns (sign' p q) (suc i)
signed_up ns (inside h z) = inside (binder_signed h) (ap suc z)
signed_up {e} ns (outside {r = r} {k = k} h m z) = absurd (none_means e r k m)

signed_down : {e : Edition} {ns : List ℕ} {p i : ℕ} {q : Named} → BoundIn e ns (sign' p q) (suc i) → BoundIn e [] q i
signed_down (inside (binder_signed h) z) = inside h (omega arith)
signed_down (outside f _ _) = elim f [ ]

module _ {e : Edition} {ns : List ℕ} {o : Op} {l : Label (binds o)} {a b : Named} {i : ℕ} where
  first_up : BoundIn e ns a i → BoundIn e ns (node' o l a b) (suc i)
  first_up (inside h z) = inside (binder_first h) (ap suc z)
  first_up (outside h m z) = outside (free_first h) m (ap suc z)

  first_down : i < size' a → BoundIn e ns (node' o l a b) (suc i) → BoundIn e ns a i
  first_down k (inside (binder c h) z) = absurd (omega arith)
  first_down k (inside (binder_first h) z) = inside h (omega arith)
  first_down k (inside (binder_second h) z) = absurd (omega arith)
  first_down k (outside (free_first h) m z) = outside h m (omega arith)
  first_down k (outside (free_second f h) m z) = absurd (omega arith)

module _ (e : Edition) (ns : List ℕ) (o : Op) (l : Label (binds o)) {a b : Named} {i : ℕ} where
  second_up : ScopeOf e ns → BoundIn e (enter e (binds o) l ns) b i → BoundIn e ns (node' o l a b) (suc (size' a + i))
  second_up v (inside h z) = inside (binder_second h) (omega arith)
  second_up v (outside {r = r} {k = k} h m z) = elim (means_cases e (binds o) l ns r k v m) [
    | inl c ↦ inside (binder c.0 h) (omega arith)
    | inr x ↦ outside (free_second x.frees h) x.means (omega arith)
  ]

  second_down : BoundIn e ns (node' o l a b) (suc (size' a + i)) → BoundIn e (enter e (binds o) l ns) b i
  second_down (inside (binder {r = r} c h) z) = let (k, m) = binds_means e (binds o) l ns r c in outside h m (omega arith)
  second_down (inside (binder_first h) z) = let w = binder_within h in absurd (omega arith)
  second_down (inside (binder_second h) z) = inside h (omega arith)
  second_down (outside (free_first h) m z) = let w = free_within h in absurd (omega arith)
  second_down (outside {k = k} (free_second {r = r} {r' = r'} f h) m z) =
      let (j, n) = frees_means e (binds o) l ns r r' k f m in outside h n (omega arith)

-- ---- what a conversion finds: each variable bound, or a first one that is not

-- each variable before the word n is bound
abbrev Before : Edition → List ℕ → Named → ℕ → Type 0
Before e ns s n = (r i : ℕ) → VariableAt r i s → i < n → BoundIn e ns s i

-- what the conversion of s, which begins at the place at, gives or is refused by
data Finds (e : Edition) (ns : List ℕ) (at : ℕ) (s : Named) : Result Named → Type 0 where
  all : {t : Named} → Before e ns s (size' s) → Finds e ns at s (ok t)
  fails : {r i : ℕ} (p : ℕ) → VariableAt r i s → (BoundIn e ns s i → ⊥) → Before e ns s i → p ≡ at + i → Finds e ns at s (refused unbound p)

no_variable : {r i : ℕ} {a : Atom} → VariableAt r i (atom' a) → ⊥
no_variable = elim [ ]

module _ (e : Edition) (ns : List ℕ) (at x : ℕ) where
  seen : {r i y : ℕ} → meaning e x ns ≡ some y → VariableAt r i (var' x) → BoundIn e ns (var' x) i
  seen n variable = outside free n refl

  unseen : meaning e x ns ≡ none → BoundIn e ns (var' x) 0 → ⊥
  unseen n (outside free m z) = clash (cc)
  unseen n (inside f _) = elim f [ ]

  var_finds : (o : Option ℕ) → meaning e x ns ≡ o → Finds e ns at (var' x) (known unbound at o >>= λ y. ok (var' y))
  var_finds none n = fails at variable (unseen n) (λ r i h l. absurd (omega arith)) (omega arith)
  var_finds (some y) n = all (λ r i h l. seen n h)

module _ (e : Edition) (ns : List ℕ) (at p : ℕ) (q : Named) where
  sign_before : {n : ℕ} → Before e [] q n → Before e ns (sign' p q) (suc n)
  sign_before f r i (variable_signed {i = j} h) l = signed_up ns (f r j h (omega arith))

  sign_finds : {u : Result Named} → Finds e [] (at + 1) q u → Finds e ns at (sign' p q) (u >>= λ r. ok (sign' p r))
  unfolding size'
  sign_finds (all f) = all (sign_before f)
  sign_finds (fails n h x f z) = fails n (variable_signed h) (λ c. x (signed_down c)) (sign_before f) (omega arith)

module _ (e : Edition) (ns : List ℕ) (at : ℕ) (o : Op) (l : Label (binds o)) (a b : Named) (v : ScopeOf e ns) where
  first_before : {n : ℕ} → n < size' a → Before e ns a n → Before e ns (node' o l a b) (suc n)
  first_before w f r i (variable_first {i = j} h) z = first_up (f r j h (omega arith))
  first_before w f r i (variable_second h) z = absurd (omega arith)

  second_before : {n : ℕ} → Before e ns a (size' a) → Before e (enter e (binds o) l ns) b n → Before e ns (node' o l a b) (suc (size' a + n))
  second_before f g r i (variable_first {i = j} h) z = first_up (f r j h (variable_within h))
  second_before f g r i (variable_second {i = j} h) z = second_up e ns o l v (g r j h (omega arith))

  node_finds : {u w : Result Named} → Finds e ns (at + 1) a u → Finds e (enter e (binds o) l ns) (at + 1 + size' a) b w →
      Finds e ns at (node' o l a b) (u >>= λ s. w >>= λ t. ok (node' o (relabel e (binds o) ns) s t))
  unfolding size'
  node_finds (fails p h x f z) g = let k = variable_within h in fails p (variable_first h) (λ c. x (first_down k c)) (first_before k f) (omega arith)
  node_finds (all f) (fails p h x g z) = fails p (variable_second h) (λ c. x (second_down e ns o l c)) (second_before f g) (omega arith)
  node_finds (all f) (all g) = all (second_before f g)

finds : (e : Edition) (s : Named) (ns : List ℕ) (at : ℕ) → ScopeOf e ns → Finds e ns at s (convert e ns at s)
unfolding convert
finds e (atom' a) ns at v = all (λ r i h l. absurd (no_variable h))
finds e (var' x) ns at v = var_finds e ns at x (meaning e x ns) refl
finds e (sign' p q) ns at v = sign_finds e ns at p q (finds e q [] (at + 1) (no_names e))
finds e (node' o l a b) ns at v =
    node_finds e ns at o l a b v (finds e a ns (at + 1) v) (finds e b (enter e (binds o) l ns) (at + 1 + size' a) (enter_scope e (binds o) l ns v))

-- ---- with no names outside

-- what the conversion of a whole term gives or is refused by
abbrev FindsAll : Edition → Named → Result Named → Type 0
FindsAll e s (ok t) = AllBound e s
FindsAll e s (refused m p) = (m ≡ unbound) × FirstUnbound e s p

module _ (e : Edition) (s : Named) where
  bound_in : (i : ℕ) → BoundIn e [] s i → (j : ℕ) × BinderAt e i j s
  bound_in i (inside {j = j} h z) = (j, subst (λ n. BinderAt e n j s) z h)
  bound_in i (outside {r = r} {k = k} h m z) = absurd (none_means e r k m)

  all_found : {u : Result Named} → Finds e [] 0 s u → FindsAll e s u
  all_found (all f) = λ r i h. bound_in i (f r i h (variable_within h))
  all_found (fails {r = r} {i = i} p h x f z) =
      let k : i ≡ p = omega arith in
      let g : FirstUnbound e s i = record { which = r; stands = h; alone = λ j c. x (inside c refl); before = λ r j h l. bound_in j (f r j h l) } in
      (refl, subst (FirstUnbound e s) k g)

  found : FindsAll e s (convert e [] 0 s)
  found = all_found (finds e s [] 0 (no_names e))

place_unique : {e : Edition} {s : Named} {p p' : ℕ} → FirstUnbound e s p → FirstUnbound e s p' → p ≡ p'
place_unique {p} {p'} f g = elim (compare_cases p p') [
  | inl l ↦ (let (j, h) = g.before f.which p f.stands l in absurd (f.alone j h))
  | inr (inl q) ↦ q
  | inr (inr l) ↦ (let (j, h) = f.before g.which p' g.stands l in absurd (g.alone j h))
]

-- a term is refused exactly with 24 at the first variable that has no binder
pub convert_refused : (e : Edition) (s : Named) (m p : ℕ) → (convert e [] 0 s ≡ refused m p) ↔ ((m ≡ unbound) × FirstUnbound e s p)
convert_refused e s m p = ((λ q. subst (FindsAll e s) q (found e s)), λ (n, f). go (convert e [] 0 s) (found e s) n f)
  where
    go : (u : Result Named) → FindsAll e s u → m ≡ unbound → FirstUnbound e s p → u ≡ refused m p
    go (ok t) g n f = let (j, h) = g f.which p f.stands in absurd (f.alone j h)
    go (refused m' p') g n f = ap₂ refused (g.0 ∙ sym n) (place_unique g.1 f)

-- a term converts exactly when each of its variables has a binder
pub convert_bound : (e : Edition) (s : Named) → ((t : Named) × (convert e [] 0 s ≡ ok t)) ↔ AllBound e s
convert_bound e s = ((λ (t, q). subst (FindsAll e s) q (found e s)), go (convert e [] 0 s) (found e s))
  where
    go : (u : Result Named) → FindsAll e s u → AllBound e s → (t : Named) × (u ≡ ok t)
    go (ok t) g f = (t, refl)
    go (refused m p) g f = let (j, h) = f g.1.which p g.1.stands in absurd (g.1.alone j h)
