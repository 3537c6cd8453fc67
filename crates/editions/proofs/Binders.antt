-- Conversion keeps each variable's binder, either way; and a node's variables are those of its children.
use Prim.Native.Nat.{ℕ, suc, ◌+◌, ◌<◌}
use mathlib.Core.Path.{◌≡◌, refl, sym, ap, subst}
use mathlib.Core.Logic.{inl, inr}
use mathlib.Core.List.{List}
use mathlib.Core.Option.{some}
use native.Mathlib.Omega.{arith}
use Rattle.logic.specs.Term.{Op, binds}
use Rattle.editions.specs.Named.{Label, Named, sign', node', size'}
use Rattle.editions.specs.Edition.{other}
use Rattle.editions.specs.Convert.{meaning, ScopeOf}
use Rattle.editions.specs.Binders.{IsBinder, Frees, FreeAt, free, free_first, free_second, BinderAt, binder, binder_signed, binder_first, binder_second}
use Rattle.editions.specs.declared.Edition.{Edition}
use Rattle.editions.proofs.Scopes.{enter_scope, no_names, means_cases, frees_apart, frees_once}
use Rattle.editions.proofs.Means.{Means, means_atom, means_var, means_sign, means_node, means_size}

module _ {e : Edition} where
  -- ---- where a variable can stand

  pub free_within : {r i : ℕ} {s : Named} → FreeAt e r i s → i < size' s
  unfolding size'
  free_within free = omega arith
  free_within (free_first f) = let h = free_within f in omega arith
  free_within (free_second d f) = let h = free_within f in omega arith

  pub binder_within : {i j : ℕ} {s : Named} → BinderAt e i j s → i < size' s
  unfolding size'
  binder_within (binder c f) = let h = free_within f in omega arith
  binder_within (binder_signed b) = let h = binder_within b in omega arith
  binder_within (binder_first b) = let h = binder_within b in omega arith
  binder_within (binder_second b) = let h = binder_within b in omega arith

  -- ---- conversion keeps binders

  pub free_kept : {ns : List ℕ} {s t : Named} {r i : ℕ} → Means e ns s t → ScopeOf e ns → FreeAt e r i s →
      (k : ℕ) × (meaning e r ns ≡ some k) × FreeAt (other e) k i t
  free_kept (means_var {y = y} m) h free = (y, m, free)
  free_kept (means_node m n) h (free_first f) = let (k, p, g) = free_kept m h f in (k, p, free_first g)
  free_kept {r} (means_node {ns = ns} {o = o} {l = l} m n) h (free_second {r = x} d f) =
      let (k, p, g) = free_kept n (enter_scope e (binds o) l ns h) f in
      elim (means_cases e (binds o) l ns x k h p) [
        | inl c ↦ absurd (frees_apart e (binds o) l x r d c.0)
        | inr w ↦ (w.k', rw (frees_once e (binds o) l x r w.r' d w.frees) w.means, rw (← means_size m) (free_second w.frees_other g))
      ]
  free_kept means_atom h f = elim f [ ]
  free_kept (means_sign _) h f = elim f [ ]

  pub free_back : {ns : List ℕ} {s t : Named} {k i : ℕ} → Means e ns s t → ScopeOf e ns → FreeAt (other e) k i t →
      (r : ℕ) × (meaning e r ns ≡ some k) × FreeAt e r i s
  free_back (means_var {x = x} m) h free = (x, m, free)
  free_back (means_node m n) h (free_first f) = let (r, p, g) = free_back m h f in (r, p, free_first g)
  free_back {k} (means_node {ns = ns} {o = o} {l = l} m n) h (free_second {r = y} d f) =
      let (x, p, g) = free_back n (enter_scope e (binds o) l ns h) f in
      elim (means_cases e (binds o) l ns x y h p) [
        | inl c ↦ absurd (frees_apart (other e) (binds o) _ y k d c.1)
        | inr w ↦ (w.r', rw (frees_once (other e) (binds o) _ y k w.k' d w.frees_other) w.means, rw (means_size m) (free_second w.frees g))
      ]
  free_back means_atom h f = elim f [ ]
  free_back (means_sign _) h f = elim f [ ]

  pub binder_kept : {ns : List ℕ} {s t : Named} {i j : ℕ} → Means e ns s t → ScopeOf e ns → BinderAt e i j s → BinderAt (other e) i j t
  binder_kept (means_sign m) h (binder_signed b) = binder_signed (binder_kept m (no_names e) b)
  binder_kept (means_node m n) h (binder_first b) = binder_first (binder_kept m h b)
  binder_kept (means_node {ns = ns} {o = o} {l = l} m n) h (binder_second b) =
      rw (← means_size m) (binder_second (binder_kept n (enter_scope e (binds o) l ns h) b))
  binder_kept (means_node {ns = ns} {o = o} {l = l} m n) h (binder {r = x} c f) =
      let (k, p, g) = free_kept n (enter_scope e (binds o) l ns h) f in
      elim (means_cases e (binds o) l ns x k h p) [
        | inl d ↦ rw (← means_size m) (binder d.1 g)
        | inr w ↦ absurd (frees_apart e (binds o) l x w.r' w.frees c)
      ]
  binder_kept means_atom h f = elim f [ ]
  binder_kept (means_var _) h f = elim f [ ]

  pub binder_back : {ns : List ℕ} {s t : Named} {i j : ℕ} → Means e ns s t → ScopeOf e ns → BinderAt (other e) i j t → BinderAt e i j s
  binder_back (means_sign m) h (binder_signed b) = binder_signed (binder_back m (no_names e) b)
  binder_back (means_node m n) h (binder_first b) = binder_first (binder_back m h b)
  binder_back (means_node {ns = ns} {o = o} {l = l} m n) h (binder_second b) =
      rw (means_size m) (binder_second (binder_back n (enter_scope e (binds o) l ns h) b))
  binder_back (means_node {ns = ns} {o = o} {l = l} m n) h (binder {r = y} c f) =
      let (x, p, g) = free_back n (enter_scope e (binds o) l ns h) f in
      elim (means_cases e (binds o) l ns x y h p) [
        | inl d ↦ rw (means_size m) (binder d.0 g)
        | inr w ↦ absurd (frees_apart (other e) (binds o) _ y w.k' w.frees_other c)
      ]
  binder_back means_atom h f = elim f [ ]
  binder_back (means_var _) h f = elim f [ ]

  -- ---- a node's variables are those of its children

  pub binder_signed_of : {p i j : ℕ} {q : Named} → BinderAt e (suc i) (suc j) (sign' p q) → BinderAt e i j q
  binder_signed_of (binder_signed b) = b

  module _ {o : Op} {l : Label (binds o)} {a b : Named} where
    pub free_first_of : {r i : ℕ} → FreeAt e r (suc i) (node' o l a b) → i < size' a → FreeAt e r i a
    free_first_of (free_first f) h = f
    free_first_of (free_second d f) h = absurd (omega arith)

    pub free_second_of : {r m i : ℕ} → FreeAt e r (suc m) (node' o l a b) → m ≡ size' a + i → (k : ℕ) × Frees e (binds o) l k r × FreeAt e k i b
    free_second_of (free_first f) h = let z = free_within f in absurd (omega arith)
    free_second_of (free_second {r = k} d f) h = (k, d, subst (λ i. FreeAt e k i b) (omega arith) f)

    pub binder_first_of : {i j : ℕ} → BinderAt e (suc i) (suc j) (node' o l a b) → i < size' a → BinderAt e i j a
    binder_first_of (binder_first c) h = c
    binder_first_of (binder_second c) h = absurd (omega arith)

    pub binder_second_of : {m n i j : ℕ} → BinderAt e (suc m) (suc n) (node' o l a b) → m ≡ size' a + i → n ≡ size' a + j → BinderAt e i j b
    binder_second_of (binder_first c) h k = let z = binder_within c in absurd (omega arith)
    binder_second_of {j} (binder_second {i = x} c) h k = subst (λ i. BinderAt e i j b) (omega arith) (subst (λ j. BinderAt e x j b) (omega arith) c)

    pub binder_here_of : {m i : ℕ} → BinderAt e (suc m) 0 (node' o l a b) → m ≡ size' a + i → (k : ℕ) × IsBinder e (binds o) l k × FreeAt e k i b
    binder_here_of (binder {r = k} c f) h = (k, c, subst (λ i. FreeAt e k i b) (omega arith) f)

-- ---- a variable has one binder at most

module _ {e : Edition} where
  free_once : {r r' m n : ℕ} {s : Named} → FreeAt e r m s → FreeAt e r' n s → m ≡ n → r ≡ r'
  free_once free free z = refl
  free_once (free_first f) (free_first g) z = free_once f g (omega arith)
  free_once (free_first f) (free_second d g) z = let l = free_within f in absurd (omega arith)
  free_once (free_second d f) (free_first g) z = let l = free_within g in absurd (omega arith)
  free_once {r} {r'} (free_second {o = o} {l = l} {r = x} d f) (free_second d' g) z =
      frees_once e (binds o) l x r r' d (subst (λ y. Frees e (binds o) l y r') (sym (free_once f g (omega arith))) d')

  free_unbound : {r m n j : ℕ} {s : Named} → FreeAt e r m s → BinderAt e n j s → m ≡ n → ⊥
  free_unbound (free_first f) (binder c g) z = let l = free_within f in omega arith
  free_unbound (free_first f) (binder_first h) z = free_unbound f h (omega arith)
  free_unbound (free_first f) (binder_second h) z = let l = free_within f in omega arith
  free_unbound {r} (free_second {o = o} {l = l} {r = x} d f) (binder c g) z =
      frees_apart e (binds o) l x r d (subst (IsBinder e (binds o) l) (sym (free_once f g (omega arith))) c)
  free_unbound (free_second d f) (binder_first h) z = let l = binder_within h in omega arith
  free_unbound (free_second d f) (binder_second h) z = free_unbound f h (omega arith)
  free_unbound free f z = elim f [ ]

  pub one_binder : {m n j k : ℕ} {s : Named} → BinderAt e m j s → BinderAt e n k s → m ≡ n → j ≡ k
  one_binder (binder c f) (binder c' g) z = refl
  one_binder (binder c f) (binder_first h) z = let l = binder_within h in absurd (omega arith)
  one_binder (binder c f) (binder_second h) z = absurd (free_unbound f h (omega arith))
  one_binder (binder_signed h) (binder_signed g) z = ap suc (one_binder h g (omega arith))
  one_binder (binder_first h) (binder c f) z = let l = binder_within h in absurd (omega arith)
  one_binder (binder_first h) (binder_first g) z = ap suc (one_binder h g (omega arith))
  one_binder (binder_first h) (binder_second g) z = let l = binder_within h in absurd (omega arith)
  one_binder (binder_second h) (binder c f) z = absurd (free_unbound f h (omega arith))
  one_binder (binder_second h) (binder_first g) z = let l = binder_within g in absurd (omega arith)
  one_binder (binder_second {a = a} h) (binder_second g) z = ap (λ i. suc (size' a + i)) (one_binder h g (omega arith))
