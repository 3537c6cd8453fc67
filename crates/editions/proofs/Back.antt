-- There and back: a term of document 01 that is closed even within each Sign is named, no other is, and what it is
-- named as converts back to it.
use Prim.Native.Nat.{ℕ, zero, suc, ◌<◌}
use mathlib.Core.Path.{◌≡◌, refl, ap}
use mathlib.Core.Logic.{◌↔◌}
use mathlib.Core.Bool.{Bool, true, false}
use mathlib.Core.List.{List, [], ◌∷◌}
use mathlib.Core.Option.{some}
use lib.ListN.{length, get_elem?}
use native.Mathlib.Omega.{arith}
use Rattle.logic.specs.Result.{ok}
use Rattle.logic.specs.Term.{Term, atom, var, sign, node, binds}
use Rattle.logic.specs.Typing.{Has, has_prop, has_type, has_string, has_prin, has_text, has_name, has_var, has_const, has_says, has_pi}
use Rattle.logic.specs.Typing.{has_lam, has_app, has_sign, has_ret, has_bind}
use Rattle.logic.proofs.Basics.{clash}
use Rattle.logic.proofs.Results.{bind_is}
use Rattle.editions.specs.Named.{Label, Named, atom', var', sign', node', label, counted}
use Rattle.editions.specs.Convert.{enter, relabel, convert, unname, name, Closed, ScopeOf}
use Rattle.editions.specs.Binders.{IsBinder, NamedAt, named, named_signed, named_first, named_second, NamedByCount}
use Rattle.editions.specs.declared.Edition.TheVariants.{Counts, Names}
use Rattle.editions.proofs.Scopes.{entered, enter_scope, no_names, named_back}
use Rattle.editions.proofs.Means.{Means, means_atom, means_var, means_sign, means_node, convert_means, means_convert}
use Rattle.editions.proofs.Words.{erased_counted}

-- ---- what is closed is named, and what is named is closed

entry : (ns : List ℕ) (n : ℕ) → n < length ns → (y : ℕ) × (get_elem? ns n ≡ some y)
entry [] n h = absurd (omega arith)
entry (y ∷ ns) zero h = (y, refl)
entry (y ∷ ns) (suc n) h = entry ns n (omega arith)

entry_below : {X : Type 0} {y : X} (ns : List X) (n : ℕ) → get_elem? ns n ≡ some y → n < length ns
entry_below [] n e = absurd (clash (cc))
entry_below (x ∷ ns) zero e = omega arith
entry_below (x ∷ ns) (suc n) e = let h = entry_below ns n e in omega arith

closed_named : (t : Term) (ns : List ℕ) → Closed (length ns) t → (s : Named) × Means Counts ns (counted t) s
unfolding Closed counted
closed_named (atom a) ns c = (atom' a, means_atom)
closed_named (var n) ns c = let (y, h) = entry ns n c in (var' y, means_var h)
closed_named (sign p q) ns c = let (s, m) = closed_named q [] c in (sign' p s, means_sign m)
closed_named (node o a b) ns c =
    let (s, m) = closed_named a ns c.0 in
    let (t, n) = closed_named b (enter Counts (binds o) (label (binds o) 0) ns) (rw entered c.1) in
    (node' o (relabel Counts (binds o) ns) s t, means_node m n)

means_closed : (t : Term) {ns : List ℕ} {s : Named} → Means Counts ns (counted t) s → Closed (length ns) t
unfolding Closed counted
means_closed (atom a) m = tt
means_closed (var n) {ns} (means_var m) = entry_below ns n m
means_closed (sign p q) (means_sign m) = means_closed q m
means_closed (node o a b) {ns} (means_node m n) = (means_closed a m, rw (← entered (binds o) (label (binds o) 0) ns) (means_closed b n))

pub closed : (t : Term) → ((s : Named) × (name t ≡ ok s)) ↔ Closed 0 t
closed t = ((λ (s, e). means_closed t (convert_means Counts (counted t) [] 0 e)), λ c. let (s, m) = closed_named t [] c in (s, means_convert m 0))

-- ---- what is named converts back

node_back : (b : Bool) (l : Label b) (ns : List ℕ) → (enter Counts b l ns ≡ enter Names b (relabel Counts b ns) ns) × (relabel Names b ns ≡ label b 0)
node_back true l ns = (refl, refl)
node_back false l ns = (refl, refl)

back_means : (t : Term) {ns : List ℕ} {s : Named} → ScopeOf Counts ns → Means Counts ns (counted t) s → Means Names ns s (counted t)
unfolding counted
back_means (atom a) h means_atom = means_atom
back_means (var n) {ns} h (means_var {y = y} m) = means_var (named_back ns n y h m).1
back_means (sign p q) h (means_sign m) = means_sign (back_means q (no_names Counts) m)
back_means (node o a b) {ns} h (means_node m n) =
    let (p, q) = node_back (binds o) (label (binds o) 0) ns in
    let i = back_means b (enter_scope Counts (binds o) (label (binds o) 0) ns h) n in
    rw (← q) (means_node (back_means a h m) (rw p at i))

pub back : (t : Term) (s : Named) → name t ≡ ok s → unname s ≡ ok t
back t s e = bind_is _ (means_convert (back_means t (no_names Counts) (convert_means Counts (counted t) [] 0 e)) 0) (ap ok (erased_counted t))

-- ---- a binder's name is the count of binders in whose body it stands

named_here : (b : Bool) (ns : List ℕ) {x : ℕ} → IsBinder Names b (relabel Counts b ns) x → x ≡ length ns
named_here true ns c = c
named_here false ns c = absurd c

named_count : {ns : List ℕ} {u s : Named} {x d j : ℕ} → Means Counts ns u s → NamedAt x d (length ns) j s → x ≡ d
named_count (means_sign m) (named_signed c) = named_count m c
named_count (means_node {ns = ns} {o = o} m n) (named c) = named_here (binds o) ns c
named_count (means_node m n) (named_first c) = named_count m c
named_count (means_node {ns = ns} {o = o} {l = l} m n) (named_second c) = named_count n (rw (← entered (binds o) l ns) at c)
named_count means_atom f = elim f [ ]
named_count (means_var _) f = elim f [ ]

pub named_by_count : (u s : Named) → convert Counts [] 0 u ≡ ok s → NamedByCount s
named_by_count u s e x d j h = named_count (convert_means Counts u [] 0 e) h

-- ---- typed terms

-- a term that has a type is closed even within each Sign
pub typed_closed : {Σ Γ : List Term} {t A : Term} → Has Σ Γ t A → Closed (length Γ) t
unfolding Closed
typed_closed has_prop = tt
typed_closed has_type = tt
typed_closed has_string = tt
typed_closed has_prin = tt
typed_closed has_text = tt
typed_closed has_name = tt
typed_closed (has_var {Γ} {n} p) = entry_below Γ n p
typed_closed (has_const p) = tt
typed_closed (has_says a q) = (typed_closed a, typed_closed q)
typed_closed (has_pi d s b r) = (typed_closed d, typed_closed b)
typed_closed (has_lam d s b B) = (typed_closed d, typed_closed b)
typed_closed (has_app f e) = (typed_closed f, typed_closed e)
typed_closed (has_sign q) = typed_closed q
typed_closed (has_ret a e q) = (typed_closed a, typed_closed e)
typed_closed (has_bind e b o) = (typed_closed e, typed_closed b)
