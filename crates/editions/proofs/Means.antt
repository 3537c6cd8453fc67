-- What a term is converted into, as a relation, and its size.
use Prim.Native.Nat.{ℕ, suc, ◌+◌}
use mathlib.Core.Path.{◌≡◌, refl, ap, subst}
use mathlib.Core.List.{List, []}
use mathlib.Core.Option.{some}
use native.Mathlib.Omega.{arith}
use Rattle.logic.specs.Refusals.{unbound}
use Rattle.logic.specs.Result.{ok, known}
use Rattle.logic.specs.Term.{Atom, Op, binds}
use Rattle.logic.proofs.Results.{ok_inj, bound, found, bind_is}
use Rattle.editions.specs.Named.{Label, Named, atom', var', sign', node', size'}
use Rattle.editions.specs.Convert.{meaning, enter, relabel, convert}
use Rattle.editions.specs.declared.Edition.{Edition}

-- with the names ns in scope, s is converted into t
pub data Means (e : Edition) : List ℕ → Named → Named → Type 0 where
  means_atom : {ns : List ℕ} {a : Atom} → Means e ns (atom' a) (atom' a)
  means_var : {ns : List ℕ} {x y : ℕ} → meaning e x ns ≡ some y → Means e ns (var' x) (var' y)
  means_sign : {ns : List ℕ} {p : ℕ} {q r : Named} → Means e [] q r → Means e ns (sign' p q) (sign' p r)
  means_node : {ns : List ℕ} {o : Op} {l : Label (binds o)} {a b s t : Named} → Means e ns a s → Means e (enter e (binds o) l ns) b t →
      Means e ns (node' o l a b) (node' o (relabel e (binds o) ns) s t)

pub convert_means : (e : Edition) (s : Named) (ns : List ℕ) (at : ℕ) {t : Named} → convert e ns at s ≡ ok t → Means e ns s t
unfolding convert
convert_means e (atom' a) ns at h = subst (Means e ns (atom' a)) (ok_inj h) means_atom
convert_means e (var' x) ns at h = found unbound at (meaning e x ns) _ h λ n e₁ e₂. subst (Means e ns (var' x)) (ok_inj e₂) (means_var e₁)
convert_means e (sign' p q) ns at h = bound (convert e [] (at + 1) q) _ h λ t e₁ e₂.
    subst (Means e ns (sign' p q)) (ok_inj e₂) (means_sign (convert_means e q [] (at + 1) e₁))
convert_means e (node' o l a b) ns at h =
    bound (convert e ns (at + 1) a) _ h λ s e₁ e₂. bound (convert e (enter e (binds o) l ns) (at + 1 + size' a) b) _ e₂ λ t e₃ e₄.
    subst (Means e ns (node' o l a b)) (ok_inj e₄)
    (means_node (convert_means e a ns (at + 1) e₁) (convert_means e b (enter e (binds o) l ns) (at + 1 + size' a) e₃))

pub means_convert : {e : Edition} {ns : List ℕ} {s t : Named} → Means e ns s t → (at : ℕ) → convert e ns at s ≡ ok t
unfolding convert
means_convert means_atom at = refl
means_convert (means_var m) at = bind_is (λ y. ok (var' y)) (ap (known unbound at) m) refl
means_convert (means_sign m) at = bind_is _ (means_convert m (at + 1)) refl
means_convert (means_node {a = a} m n) at = bind_is _ (means_convert m (at + 1)) (bind_is _ (means_convert n (at + 1 + size' a)) refl)

pub means_size : {e : Edition} {ns : List ℕ} {s t : Named} → Means e ns s t → size' t ≡ size' s
unfolding size'
means_size means_atom = refl
means_size (means_var m) = refl
means_size (means_sign m) = ap suc (means_size m)
means_size (means_node m n) = let h = means_size m in let k = means_size n in omega arith
