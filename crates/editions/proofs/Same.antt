-- What a term is converted into is well formed, keeps the binders, and is the only such term with the names given. Two
-- named terms are converted into the same one exactly when they differ only in names and each variable's binder stands
-- at the same word.
use Prim.Native.Nat.{ℕ, suc, ◌+◌, ◌≤◌, ◌<◌}
use mathlib.Core.Path.{◌≡◌, refl, sym, ap, ap₂, subst, ◌∙◌}
use mathlib.Core.Logic.Iff
use mathlib.Core.Logic.{◌↔◌, inl, inr}
use mathlib.Core.Bool.{Bool, true, false}
use mathlib.Core.List.{List, []}
use lib.ListN.{length}
use native.Mathlib.Omega.{arith}
use Rattle.logic.specs.Limits.{payloads}
use Rattle.logic.specs.Result.{ok}
use Rattle.logic.specs.Term.{Op, sign, node, binds, encode, size}
use Rattle.logic.specs.Reading.{depth}
use Rattle.logic.proofs.Basics.{clash}
use Rattle.logic.proofs.Words.{plain_in_range, encode_injective}
use Rattle.editions.specs.Named.{Label, Named, atom', var', sign', node', size', encode', erased}
use Rattle.editions.specs.Edition.{other, PlainLabel, Plain', WordsOf'}
use Rattle.editions.specs.Convert.{enter, relabel, convert, ScopeOf}
use Rattle.editions.specs.Binders.{IsBinder, FreeAt, free, free_first, free_second, BinderAt, binder, binder_signed, binder_first, binder_second}
use Rattle.editions.specs.Binders.{NamedAt, named, named_signed, named_first, named_second, SameBinders, OnlyNames, Preserved, NamesGiven}
use Rattle.editions.specs.declared.Edition.{Edition}
use Rattle.editions.specs.declared.Edition.TheVariants.{Counts, Names}
use Rattle.editions.proofs.Scopes.{entered, enter_scope, no_names, meaning_below, means_cases, none_means, frees_from}
use Rattle.editions.proofs.Means.{Means, means_atom, means_var, means_sign, means_node, convert_means, means_size}
use Rattle.editions.proofs.Words.{skeleton, skeleton_size, skeleton_plain, blank_words, encode_size'}
use Rattle.editions.proofs.Binders.{free_within, binder_within, free_back, binder_kept, binder_back}
use Rattle.editions.proofs.Binders.{free_first_of, free_second_of, binder_signed_of, binder_first_of, binder_second_of, binder_here_of}

node_plain : (e : Edition) (b : Bool) (l : Label b) (ns : List ℕ) → length ns < payloads →
    PlainLabel (other e) b (relabel e b ns) × (length (enter e b l ns) ≤ suc (length ns))
node_plain e false l ns h = (tt, omega arith)
node_plain Names true l ns h = (refl, omega arith)
node_plain Counts true l ns h = (h, omega arith)

-- a term has far fewer words than there are payloads
pub few : {e : Edition} {ws : List ℕ} {s : Named} → WordsOf' e ws s → size' s ≤ payloads
few {s} w = omega (arith, w.not_more, ap length w.words, encode_size' s)

-- ---- what a term is converted into

module _ {e : Edition} where
  pub means_skeleton : {ns : List ℕ} {s t : Named} → Means e ns s t → skeleton t ≡ skeleton s
  unfolding skeleton
  means_skeleton means_atom = refl
  means_skeleton (means_var m) = refl
  means_skeleton (means_sign {p = p} m) = ap (sign p) (means_skeleton m)
  means_skeleton (means_node {o = o} m n) = ap₂ (node o) (means_skeleton m) (means_skeleton n)

  means_depth : {ns : List ℕ} {s t : Named} → Means e ns s t → depth (erased t) ≡ depth (erased s)
  unfolding depth erased
  means_depth means_atom = refl
  means_depth (means_var m) = refl
  means_depth (means_sign m) = ap suc (means_depth m)
  means_depth (means_node m n) = let h = means_depth m in let k = means_depth n in omega arith

  pub means_plain : {ns : List ℕ} {s t : Named} → Means e ns s t → ScopeOf e ns → Plain' e s → length ns + size' s ≤ payloads → Plain' (other e) t
  unfolding Plain' size'
  means_plain means_atom h p z = p
  means_plain (means_var {ns = ns} {x = x} {y = y} m) h p z = let l = meaning_below e ns x y h m in omega arith
  means_plain (means_sign m) h p z = (p.0, means_plain m (no_names e) p.1 (omega arith))
  means_plain (means_node {ns = ns} {o = o} {l = l} m n) h p z =
      let (q, k) = node_plain e (binds o) l ns (omega arith) in
      (q, means_plain m h p.1 (omega arith), means_plain n (enter_scope e (binds o) l ns h) p.2 (omega arith))

pub kept : (e : Edition) (s t : Named) → Plain' e s → size' s ≤ payloads → convert e [] 0 s ≡ ok t → Preserved e s t
kept e s t p z c =
    let m = convert_means e s [] 0 c in
    record {
      words = blank_words e s p ∙ ap encode (sym (means_skeleton m)) ∙ sym (blank_words (other e) t (means_plain m (no_names e) p (omega arith)));
      binders = λ i j. (binder_kept m (no_names e), binder_back m (no_names e));
    }

pub well_formed : (e : Edition) (ws : List ℕ) (s t : Named) → WordsOf' e ws s → convert e [] 0 s ≡ ok t → WordsOf' (other e) (encode' t) t
well_formed e ws s t h c =
    let m = convert_means e s [] 0 c in
    let k : length (encode' t) ≡ length ws = encode_size' t ∙ means_size m ∙ sym (encode_size' s) ∙ sym (ap length h.words) in
    record {
      plain = means_plain m (no_names e) h.plain (omega (arith, h.not_more, means_size m, encode_size' t));
      words = refl;
      some_word = omega (arith, h.some_word);
      not_more = omega (arith, h.not_more);
      nested = omega (arith, h.nested, means_depth m);
    }

-- ---- what a term is converted into is determined by its skeleton, its variables' binders and the names given

-- the names that a conversion gives in the body of k binders; in document 01's edition each binder carries 0
abbrev Given : Edition → (k : ℕ) → Named → Type 0
Given Names k v = Plain' Counts v
Given Counts k v = (x d j : ℕ) → NamedAt x d k j v → x ≡ d

given_signed : (e : Edition) (k p : ℕ) (q : Named) → Given e k (sign' p q) → Given e 0 q
unfolding Plain'
given_signed Names k p q g = g.1
given_signed Counts k p q g = λ x d j h. g x d (suc j) (named_signed h)

module _ (o : Op) (l : Label (binds o)) (a b : Named) where
  given_first : (e : Edition) (k : ℕ) → Given e k (node' o l a b) → Given e k a
  unfolding Plain'
  given_first Names k g = g.1
  given_first Counts k g = λ x d j h. g x d (suc j) (named_first h)

  given_second : (e : Edition) (l' : Label (binds o)) (ns : List ℕ) → Given e (length ns) (node' o l a b) →
      Given e (length (enter e (binds o) l' ns)) b
  unfolding Plain'
  given_second Names l' ns g = g.2
  given_second Counts l' ns g = λ x d j h. g x d (suc (size' a + j)) (named_second (rw (entered (binds o) l' ns) at h))

  given_here : (e : Edition) (ns : List ℕ) → Given e (length ns) (node' o l a b) → relabel e (binds o) ns ≡ l
  unfolding Plain'
  given_here Names ns g = zero_label (binds o) l g.0
    where
      zero_label : (b : Bool) (l : Label b) → PlainLabel Counts b l → relabel Names b ns ≡ l
      zero_label true l h = sym h
      zero_label false l h = refl
  given_here Counts ns g = count_label (binds o) l λ x c. g x (length ns) 0 (named c)
    where
      count_label : (b : Bool) (l : Label b) → ((x : ℕ) → IsBinder Names b l x → x ≡ length ns) → relabel Counts b ns ≡ l
      count_label true l h = sym (h l refl)
      count_label false l h = refl

binds_once : (e : Edition) (b : Bool) (l : Label b) (n k : ℕ) → IsBinder e b l n → IsBinder e b l k → n ≡ k
binds_once Names true l n k c d = c ∙ sym d
binds_once Counts true l n k c d = c ∙ sym d
binds_once Names false l n k c d = absurd c
binds_once Counts false l n k c d = absurd c

same_var : {e : Edition} {n m i : ℕ} → FreeAt e n i (var' m) → n ≡ m
same_var free = refl

module _ (e : Edition) where
  -- the variables of u have the same binders in v, outside the terms or within them
  record Alike (u v : Named) : Type 0 where
    outside : (k i : ℕ) → FreeAt (other e) k i u → FreeAt (other e) k i v
    inside : (i j : ℕ) → BinderAt (other e) i j u → BinderAt (other e) i j v

  closed_alike : {s u v : Named} → Means e [] s u → ((i j : ℕ) → BinderAt (other e) i j u → BinderAt (other e) i j v) → Alike u v
  closed_alike m h = record { outside = λ k i f. let (x, p, g) = free_back m (no_names e) f in absurd (none_means e x k p); inside = h }

  second_alike : (o : Op) (l : Label (binds o)) (ns : List ℕ) {b s t s' t' : Named} → ScopeOf e ns → Means e (enter e (binds o) l ns) b t →
      size' s ≡ size' s' → Alike (node' o (relabel e (binds o) ns) s t) (node' o (relabel e (binds o) ns) s' t') → Alike t t'
  second_alike o l ns v m z h = record {
    outside = λ k i f. let (r, p, g) = free_back m (enter_scope e (binds o) l ns v) f in elim (means_cases e (binds o) l ns r k v p) [
      | inl c ↦ (let (n, d, g) = binder_here_of {i = i} (h.inside _ 0 (binder c.1 f)) (omega arith) in
          rw (binds_once (other e) (binds o) _ k n c.1 d) g)
      | inr w ↦ (let (n, d, g) = free_second_of {i = i} (h.outside _ _ (free_second w.frees_other f)) (omega arith) in
          rw (frees_from (other e) (binds o) _ k n _ w.frees_other d) g)
    ];
    inside = λ i j c. binder_second_of (h.inside _ _ (binder_second c)) (omega arith) (omega arith);
  }

  determined : {ns : List ℕ} {s u : Named} → Means e ns s u → ScopeOf e ns → (v : Named) → skeleton u ≡ skeleton v → Given e (length ns) v →
      Alike u v → u ≡ v
  unfolding skeleton
  determined means_atom w (atom' a) q g h = cc
  determined means_atom w (var' x) q g h = absurd (clash (cc))
  determined means_atom w (sign' n r) q g h = absurd (clash (cc))
  determined means_atom w (node' o l a b) q g h = absurd (clash (cc))
  determined (means_var m) w (atom' a) q g h = absurd (clash (cc))
  determined (means_var {y = y} m) w (var' x) q g h = ap var' (same_var (h.outside y 0 free))
  determined (means_var m) w (sign' n r) q g h = absurd (clash (cc))
  determined (means_var m) w (node' o l a b) q g h = absurd (clash (cc))
  determined (means_sign m) w (atom' a) q g h = absurd (clash (cc))
  determined (means_sign m) w (var' x) q g h = absurd (clash (cc))
  determined (means_sign m) w (sign' n r) q g h =
      let z = determined m (no_names e) r (cc) (given_signed e _ n r g)
      (closed_alike m λ i j c. binder_signed_of (h.inside (suc i) (suc j) (binder_signed c))) in
      cc
  determined (means_sign m) w (node' o l a b) q g h = absurd (clash (cc))
  determined (means_node m n) w (atom' a) q g h = absurd (clash (cc))
  determined (means_node m n) w (var' x) q g h = absurd (clash (cc))
  determined (means_node m n) w (sign' k r) q g h = absurd (clash (cc))
  determined (means_node {ns = ns} {o = o} {l = l} {s = s} {t = t} m n) w (node' o' l' a b) q g h =
      let x : o ≡ o' = cc in
      let y = ap (λ o. node' o (relabel e (binds o) ns) a b) x ∙ ap (λ l. node' o' l a b) (given_here o' l' a b e ns g) in
      let k = subst (Alike (node' o (relabel e (binds o) ns) s t)) (sym y) h in
      let f = subst (Given e (length ns)) (sym y) g in
      let z : skeleton s ≡ skeleton a = cc in
      let j : size' s ≡ size' a = sym (skeleton_size s) ∙ ap size z ∙ skeleton_size a in
      let first : Alike s a = record {
        outside = λ r i f. let v = free_within f in free_first_of (k.outside r (suc i) (free_first f)) (omega arith);
        inside = λ i m c. let v = binder_within c in binder_first_of (k.inside (suc i) (suc m) (binder_first c)) (omega arith);
      } in
      ap₂ (node' o (relabel e (binds o) ns))
      (determined m w a z (given_first o _ a b e (length ns) f) first)
      (determined n (enter_scope e (binds o) l ns w) b (cc) (given_second o _ a b e l ns f) (second_alike o l ns w n j k)) ∙ y

-- ---- so it is the one term of the other edition with the binders preserved and the names given

-- the names given to a whole term
given_of : (e : Edition) (v : Named) → Plain' (other e) v → NamesGiven e v → Given e 0 v
given_of Names v p g = p
given_of Counts v p g = g

same_skeleton : (e f : Edition) (s t : Named) → Plain' e s → Plain' f t → SameBinders e f s t → skeleton s ≡ skeleton t
same_skeleton e f s t p q h =
    encode_injective _ _ (plain_in_range _ (skeleton_plain e s p)) (plain_in_range _ (skeleton_plain f t q))
    (sym (blank_words e s p) ∙ h.words ∙ blank_words f t q)

pub one_result : (e : Edition) (s u v : Named) → Plain' e s → Plain' (other e) v → size' s ≤ payloads → convert e [] 0 s ≡ ok u →
    Preserved e s v → NamesGiven e v → u ≡ v
one_result e s u v p q z c h g =
    let m = convert_means e s [] 0 c in
    determined e m (no_names e) v (means_skeleton m ∙ same_skeleton e (other e) s v p q h) (given_of e v q g)
    (closed_alike e m λ i j b. (h.binders i j).0 (((kept e s u p z c).binders i j).1 b))

pub same_term : (s t u v : Named) → convert Names [] 0 s ≡ ok u → convert Names [] 0 t ≡ ok v → Plain' Names s → Plain' Names t →
    size' s ≤ payloads → size' t ≤ payloads → (u ≡ v) ↔ OnlyNames s t
same_term s t u v f g p q k l =
    let n = convert_means Names t [] 0 g in
    let x = kept Names s u p k f in
    let y = kept Names t v q l g in (
      (λ e. let z = subst (Preserved Names t) (sym e) y in
          record { words = x.words ∙ sym z.words; binders = λ i j. Iff.trans (x.binders i j) (Iff.symm (z.binders i j)) }),
      (λ h. one_result Names s u v p (means_plain n tt q (omega arith)) k f
          (record { words = h.words ∙ y.words; binders = λ i j. Iff.trans (h.binders i j) (y.binders i j) }) tt),
    )
