-- What the steps of a conversion write, of whatever term stands at the place.
use Prim.Native.Nat.{ℕ, ◌+◌, ◌≤◌, ◌<◌}
use mathlib.Core.Path.{◌≡◌, refl, sym, ap, subst, subst₂, ◌∙◌}
use mathlib.Core.Bool.{Bool, true, false, cond}
use mathlib.Core.Logic.{◌⊎◌, inl, inr}
use mathlib.Core.List.{List, [], ◌∷◌, ◌++◌}
use mathlib.Core.Option.{some, none}
use lib.ListN.{length, set, get_or}
use native.Mathlib.Omega.{arith}
use Rattle.logic.specs.Limits.{most_nesting}
use Rattle.logic.specs.Refusals.{unbound}
use Rattle.logic.specs.Tags.{tag_variable}
use Rattle.logic.specs.Result.{Result, ok, refused, ◌>>=◌, known}
use Rattle.logic.specs.Term.{binds, word, payload_of, op_word}
use Rattle.logic.specs.Kind.{shape_class, op_class}
use Rattle.logic.specs.Reading.{word_shape, depth}
use Rattle.logic.specs.declared.word.Class.{Class}
use Rattle.logic.specs.declared.word.Class.TheVariants.{Atom, Variable, Sign, Node, Binder}
use Rattle.logic.proofs.Results.{ok_inj, not_ok, bound, bind_is}
use Rattle.logic.proofs.Stopped.{not_mapped, miss, stop, not_refused}
use Rattle.logic.proofs.Searches.{depth_pos}
use Rattle.logic.proofs.Shapes.{op_neither, op_other, op_sign}
use Rattle.words.specs.Place.{written_at}
use Rattle.words.proofs.Lists.{written_set, written_cons, written_node}
use Rattle.words.proofs.Places.{cons_head}
use Rattle.editions.specs.Named.{Label, Named, atom', var', sign', node', label, labelled, encode', size', erased}
use Rattle.editions.specs.Edition.{Plain', tag_word, unnamed}
use Rattle.editions.specs.Convert.{meaning, enter, relabel, convert, ScopeOf}
use Rattle.editions.specs.declared.Edition.{Edition}
use Rattle.editions.specs.declared.Edition.TheVariants.{Counts, Names}
use Rattle.named.specs.Answers.{is_binder, enter_by, relabel_by, EditionAt, Convertible, WroteTerm}
use Rattle.editions.proofs.Words.{encode_size'}
use Rattle.editions.proofs.Scopes.{no_names, enter_scope}
use Rattle.editions.proofs.Means.{convert_means, means_size}
use Rattle.named.proofs.Places.{signed_at, first_at, second_at, variable_word, node_word, node_bare, node_label, edition_class, class_binds}

-- ---- what is written of a term's parts is written of the term

wrote_leaf : (t : Named) (at w : ℕ) (old : List ℕ) → encode' t ≡ w ∷ [] → at < length old →
    WroteTerm (ok t) at (at + 1) old (set old at w) (ok (at + 1))
wrote_leaf t at w old e l = record { answer = refl; words = λ u g. written_set old at w l ∙ ap (written_at old at) (sym e ∙ ap encode' (ok_inj g)) }

wrote_none : (o : Result Named) (at end m p : ℕ) (old new : List ℕ) (r : Result ℕ) → o ≡ refused m p → r ≡ refused m p → WroteTerm o at end old new r
wrote_none o at end m p old new r e f = record { answer = f ∙ sym (stop (λ t. ok end) e); words = λ u g. absurd (not_ok (sym e ∙ g)) }

-- where it ends
pub wrote_end : (o : Result Named) (at end next : ℕ) (old new : List ℕ) (r : Result ℕ) → WroteTerm o at end old new r → r ≡ ok next →
    (t : Named) × (o ≡ ok t) × (next ≡ end)
wrote_end o at end next old new r h e = bound o (λ t. ok end) (sym h.answer ∙ e) λ t i j. (t, i, sym (ok_inj j))

pub wrote_refused : (o : Result Named) (at end m p : ℕ) (old new : List ℕ) (r : Result ℕ) → WroteTerm o at end old new r → r ≡ refused m p → o ≡ refused m p
wrote_refused o at end m p old new r h e = not_mapped (λ t. end) o (sym h.answer ∙ e)

wrote_sign : (p : ℕ) (o : Result Named) (at w end end' : ℕ) (old new : List ℕ) (r : Result ℕ) → ((t : Named) → encode' (sign' p t) ≡ w ∷ encode' t)
    → at < length old → end' ≡ end → WroteTerm o (at + 1) end' (set old at w) new r → WroteTerm (o >>= λ t. ok (sign' p t)) at end old new r
wrote_sign p (ok t) at w end end' old new r e l f h = record {
  answer = h.answer ∙ ap ok f;
  words = λ u g. written_cons old new at w (encode' t) l (h.words t refl) ∙ ap (written_at old at) (sym (e t) ∙ ap encode' (ok_inj g));
}
wrote_sign p (refused m q) at w end end' old new r e l f h = record { answer = h.answer; words = λ u g. absurd (not_ok g) }

wrote_node : (mk : Named → Named → Named) (o o' : Result Named) (at n w end end' next : ℕ) (old mid new : List ℕ) (r r' : Result ℕ)
    → ((x y : Named) → encode' (mk x y) ≡ w ∷ (encode' x ++ encode' y)) → at < length old → ((x : Named) → o ≡ ok x → n ≡ length (encode' x))
    → end' ≡ end → WroteTerm o (at + 1) (at + 1 + n) (set old at w) mid r → r ≡ ok next → WroteTerm o' (at + 1 + n) end' mid new r'
    → WroteTerm (o >>= λ x. o' >>= λ y. ok (mk x y)) at end old new r'
wrote_node mk (refused m p) o' at n w end end' next old mid new r r' e l s f h g k = absurd (not_refused (sym g ∙ h.answer))
wrote_node mk (ok x) (refused m p) at n w end end' next old mid new r r' e l s f h g k = record { answer = k.answer; words = λ y i. absurd (not_ok i) }
wrote_node mk (ok x) (ok y) at n w end end' next old mid new r r' e l s f h g k = record {
  answer = k.answer ∙ ap ok f;
  words = λ z i. written_node old mid new at w n (encode' x) (encode' y) l (s x refl) (h.words x refl) (k.words y refl)
      ∙ ap (written_at old at) (sym (e x y) ∙ ap encode' (ok_inj i));
}

-- ---- a step for each class of word

-- r is the answer for any term that stands there, and new what is written of it
abbrev pub Writes : Edition → List ℕ → (at : ℕ) → List ℕ → (old new : List ℕ) → Result ℕ → Type 0
Writes e ws at ns old new r = (s : Named) → EditionAt e ws at s → WroteTerm (convert e ns at s) at (at + size' s) old new r

not_binder : (e : Edition) (k : Class) (w v : ℕ) (ns : List ℕ) → is_binder k ≡ false → v ≡ relabel_by e k w ns → v ≡ w
not_binder e k w v ns n h = h ∙ ap (λ b. labelled b (relabel e b ns) (cond b (tag_word w) w)) n

-- a node's word is no leaf's
no_leaf : (k j : Class) → (k ≡ Node) ⊎ (k ≡ Binder) → j ≡ k → (j ≡ Node → ⊥) → (j ≡ Binder → ⊥) → ⊥
no_leaf k j node q n b = elim node [ inl x ↦ n (q ∙ x) | inr x ↦ b (q ∙ x) ]

module _ (e : Edition) (ws : List ℕ) (at : ℕ) (k : Class) (ns old : List ℕ) (u : ℕ) (bare : u ≡ unnamed e (get_or ws at 0))
    (class : k ≡ shape_class (word_shape u)) where
  -- a variable that has a binder
  pub var_bound : (y : ℕ) → k ≡ Variable → at < length old → some y ≡ meaning e (payload_of (get_or ws at 0)) ns →
      Writes e ws at ns old (set old at (word tag_variable y)) (ok (at + 1))
  unfolding convert encode' size' erased
  var_bound y i room m (atom' a) h = let f = edition_class bare class h in absurd (cc)
  var_bound y i room m (var' x) h =
      let f : meaning e x ns ≡ some y = ap (λ z. meaning e z ns) (sym (variable_word h)) ∙ sym m in
      subst (λ o. WroteTerm o at (at + 1) old (set old at (word tag_variable y)) (ok (at + 1)))
      (sym (bind_is (λ z. ok (var' z)) (ap (known unbound at) f) refl))
      (wrote_leaf (var' y) at (word tag_variable y) old refl room)
  var_bound y i room m (sign' p q) h = let f = edition_class bare class h in absurd (cc)
  var_bound y i room m (node' o l a b) h = absurd (op_other o Variable (λ x. cc) (λ x. cc) (edition_class bare class h ∙ i))

  -- one that has none
  pub var_unbound : (r : Result ℕ) → k ≡ Variable → none ≡ meaning e (payload_of (get_or ws at 0)) ns → r ≡ refused unbound at → Writes e ws at ns old old r
  unfolding convert erased
  var_unbound r i m g (atom' a) h = let f = edition_class bare class h in absurd (cc)
  var_unbound r i m g (var' x) h =
      let f : meaning e x ns ≡ none = ap (λ z. meaning e z ns) (sym (variable_word h)) ∙ sym m in
      wrote_none _ at _ unbound at old old r (miss unbound at (λ z. ok (var' z)) f) g
  var_unbound r i m g (sign' p q) h = let f = edition_class bare class h in absurd (cc)
  var_unbound r i m g (node' o l a b) h = absurd (op_other o Variable (λ x. cc) (λ x. cc) (edition_class bare class h ∙ i))

  module _ (v : ℕ) (relabels : v ≡ relabel_by e k (get_or ws at 0) ns) (room : at < length old) where
    pub atom_wrote : (k ≡ Variable → ⊥) → (k ≡ Sign → ⊥) → (k ≡ Node → ⊥) → (k ≡ Binder → ⊥) → Writes e ws at ns old (set old at v) (ok (at + 1))
    unfolding convert encode' size' erased
    atom_wrote n0 n1 n2 n3 (atom' a) h =
        let f = not_binder e k (get_or ws at 0) v ns (ap is_binder (sym (edition_class bare class h))) relabels ∙ cons_head ws at _ _ h.words in
        wrote_leaf (atom' a) at v old (ap (λ x. x ∷ []) (sym f)) room
    atom_wrote n0 n1 n2 n3 (var' x) h = absurd (n0 (sym (edition_class bare class h)))
    atom_wrote n0 n1 n2 n3 (sign' p q) h = absurd (n1 (sym (edition_class bare class h)))
    atom_wrote n0 n1 n2 n3 (node' o l a b) h =
        let f : op_class o ≡ k = edition_class bare class h in absurd (op_neither o (λ x. n2 (sym f ∙ x)) (λ x. n3 (sym f ∙ x)))

    pub sign_wrote : (new : List ℕ) (r : Result ℕ) → k ≡ Sign → Writes e ws (at + 1) [] (set old at v) new r → Writes e ws at ns old new r
    unfolding convert encode' size' erased
    sign_wrote new r i f (atom' a) h = let f = edition_class bare class h in absurd (cc)
    sign_wrote new r i f (var' x) h = let f = edition_class bare class h in absurd (cc)
    sign_wrote new r i f (sign' p q) h =
        let g = not_binder e k (get_or ws at 0) v ns (ap is_binder i) relabels ∙ cons_head ws at _ _ h.words in
        wrote_sign p (convert e [] (at + 1) q) at v (at + size' (sign' p q)) (at + 1 + size' q) old new r
        (λ t. ap (λ x. x ∷ encode' t) (sym g)) room (omega arith) (f q (signed_at h))
    sign_wrote new r i f (node' o l a b) h = absurd (op_sign o (edition_class bare class h ∙ i))

    -- of a node, what the first child gives and the second
    module _ (node : (k ≡ Node) ⊎ (k ≡ Binder)) (mid : List ℕ) (r : Result ℕ) (first : Writes e ws (at + 1) ns (set old at v) mid r) where
      pub first_refused : (m p : ℕ) (r' : Result ℕ) → r ≡ refused m p → r' ≡ refused m p → Writes e ws at ns old mid r'
      unfolding convert erased
      first_refused m p r' g j (atom' a) h = absurd (no_leaf k Atom node (edition_class bare class h) (λ x. cc) (λ x. cc))
      first_refused m p r' g j (var' x) h = absurd (no_leaf k Variable node (edition_class bare class h) (λ x. cc) (λ x. cc))
      first_refused m p r' g j (sign' x q) h = absurd (no_leaf k Sign node (edition_class bare class h) (λ x. cc) (λ x. cc))
      first_refused m p r' g j (node' o l a b) h =
          wrote_none _ at _ m p old mid r' (stop _ (wrote_refused (convert e ns (at + 1) a) _ _ m p _ mid r (first a (first_at h)) g)) j

      -- where it ends
      pub first_end : (next : ℕ) (s : Named) → r ≡ ok next → EditionAt e ws (at + 1) s → next ≡ at + 1 + size' s
      first_end next s g h = let (t, i, j) = wrote_end (convert e ns (at + 1) s) (at + 1) (at + 1 + size' s) next (set old at v) mid r (first s h) g in j

      pub node_wrote : (next : ℕ) (ms new : List ℕ) (r' : Result ℕ) → r ≡ ok next → ms ≡ enter_by e k (get_or ws at 0) ns →
          Writes e ws next ms mid new r' → Writes e ws at ns old new r'
      unfolding convert encode' size' erased Plain'
      node_wrote next ms new r' g j f (atom' a) h = absurd (no_leaf k Atom node (edition_class bare class h) (λ x. cc) (λ x. cc))
      node_wrote next ms new r' g j f (var' x) h = absurd (no_leaf k Variable node (edition_class bare class h) (λ x. cc) (λ x. cc))
      node_wrote next ms new r' g j f (sign' x q) h = absurd (no_leaf k Sign node (edition_class bare class h) (λ x. cc) (λ x. cc))
      node_wrote next ms new r' g j f (node' o l a b) h =
          let w = get_or ws at 0 in
          let c = class_binds o k (edition_class bare class h) in
          let i : v ≡ labelled (binds o) (relabel e (binds o) ns) (op_word o) =
          relabels ∙ ap (λ x. labelled x (relabel e x ns) (cond x (tag_word w) w)) c
          ∙ ap (labelled (binds o) (relabel e (binds o) ns)) (node_bare e o l w h.plain.0 (node_word h)) in
          let d : ms ≡ enter e (binds o) l ns =
          j ∙ ap (λ x. enter e x (label x (payload_of w)) ns) c ∙ ap (λ x. enter e (binds o) x ns) (node_label e o l w h.plain.0 (node_word h)) in
          wrote_node (node' o (relabel e (binds o) ns)) (convert e ns (at + 1) a) (convert e (enter e (binds o) l ns) (at + 1 + size' a) b)
          at (size' a) v (at + size' (node' o l a b)) (at + 1 + size' a + size' b) next old mid new r r'
          (λ x y. ap (λ z. z ∷ (encode' x ++ encode' y)) (sym i)) room
          (λ x z. sym (encode_size' x ∙ means_size (convert_means e a ns (at + 1) z))) (omega arith) (first a (first_at h)) g
          (subst₂ (λ y z. WroteTerm (convert e z y b) y (y + size' b) mid new r') (first_end next a g (first_at h)) d
          (f b (subst (λ y. EditionAt e ws y b) (sym (first_end next a g (first_at h))) (second_at h))))

-- ---- the parts of a term that is not too deep can be converted

pub entered_scope : (e : Edition) (k : Class) (w : ℕ) (ns ms : List ℕ) → ScopeOf e ns → ms ≡ enter_by e k w ns → ScopeOf e ms
entered_scope e k w ns ms h j = subst (ScopeOf e) (sym j) (enter_scope e (is_binder k) (label (is_binder k) (payload_of w)) ns h)

-- there is at most one name more
entered_length : (e : Edition) (b : Bool) (l : Label b) (ns : List ℕ) → length (enter e b l ns) ≤ length ns + 1
entered_length Names true l ns = omega arith
entered_length Names false l ns = omega arith
entered_length Counts true l ns = omega arith
entered_length Counts false l ns = omega arith

module _ (e : Edition) (ws : List ℕ) (at : ℕ) (k : Class) (ns out : List ℕ) (u : ℕ) (bare : u ≡ unnamed e (get_or ws at 0))
    (class : k ≡ shape_class (word_shape u)) (room : length ws ≤ length out) where
  pub signed_convertible : (s : Named) → EditionAt e ws at s → length ns + depth (erased s) ≤ most_nesting → k ≡ Sign → (ms : List ℕ) → ms ≡ [] →
      Convertible e ws (at + 1) ms out
  unfolding erased depth
  signed_convertible (atom' a) h d i ms j = let f = edition_class bare class h in absurd (cc)
  signed_convertible (var' x) h d i ms j = let f = edition_class bare class h in absurd (cc)
  signed_convertible (sign' p q) h d i ms j =
      record { scoped = subst (ScopeOf e) (sym j) (no_names e); s = q; here = signed_at h; room = room; deep = omega (arith, ap length j) }
  signed_convertible (node' o l a b) h d i ms j = absurd (op_sign o (edition_class bare class h ∙ i))

  -- both children of a node, the second in the body of one binder more, if the node binds
  pub record Children : Type 0 where
    pub first : Named
    pub second : Named
    pub first_here : EditionAt e ws (at + 1) first
    pub second_here : EditionAt e ws (at + 1 + size' first) second
    pub first_deep : length ns + depth (erased first) ≤ most_nesting
    pub second_deep : (ms : List ℕ) → ms ≡ enter_by e k (get_or ws at 0) ns → length ms + depth (erased second) ≤ most_nesting
    pub fits : length ns < most_nesting

  pub children : (s : Named) → EditionAt e ws at s → length ns + depth (erased s) ≤ most_nesting → (k ≡ Node) ⊎ (k ≡ Binder) → Children
  unfolding erased depth
  children (atom' a) h d n = absurd (no_leaf k Atom n (edition_class bare class h) (λ x. cc) (λ x. cc))
  children (var' x) h d n = absurd (no_leaf k Variable n (edition_class bare class h) (λ x. cc) (λ x. cc))
  children (sign' p q) h d n = absurd (no_leaf k Sign n (edition_class bare class h) (λ x. cc) (λ x. cc))
  children (node' o l a b) h d n =
      let z = depth_pos (erased b) in
      record {
        first = a;
        second = b;
        first_here = first_at h;
        second_here = second_at h;
        first_deep = omega arith;
        second_deep = λ ms j. omega (arith, ap length j, entered_length e (is_binder k) (label (is_binder k) (payload_of (get_or ws at 0))) ns);
        fits = omega arith;
      }
