-- The words of both editions. Without names they are document 01's; without the payloads of variables too they are
-- those of the term's skeleton.
use Prim.Native.Nat.{ℕ, suc, ◌+◌}
use mathlib.Core.Path.{◌≡◌, refl, sym, ap, ap₂, ◌∙◌}
use mathlib.Core.Bool.{Bool, true, false, cond}
use mathlib.Core.List.{◌∷◌, ◌++◌, map, map-append}
use lib.Dec.{eqb}
use lib.ListN.{length, length-append}
use native.Mathlib.Omega.{arith}
use Rattle.logic.specs.Tags.{tag_variable, tag_constant, tag_text, tag_name, tag_sign, tag_pi, tag_lam, tag_bind}
use Rattle.logic.specs.Term.{Atom, propA, typeA, stringA, prinA, kindPA, kindTA, constA, textA, nameA, Op, saysO, piO, lamO, appO, retO, bindO}
use Rattle.logic.specs.Term.{Term, atom, var, sign, node, binds, word, tag_of, payload_of, atom_word, op_word, encode, size}
use Rattle.logic.specs.Reading.{word_shape, PlainAtom, Plain}
use Rattle.logic.specs.Kind.{shape_binds}
use Rattle.editions.specs.Named.{Label, Named, atom', var', sign', node', labelled, label, encode', size', counted, erased}
use Rattle.editions.specs.Edition.{PlainLabel, Plain', unnamed}
use Rattle.editions.specs.Binders.{blank}
use Rattle.editions.specs.declared.Edition.{Edition}
use Rattle.editions.specs.declared.Edition.TheVariants.{Counts, Names}

pub encode_size' : (s : Named) → length (encode' s) ≡ size' s
unfolding encode' size'
encode_size' (atom' a) = refl
encode_size' (var' x) = refl
encode_size' (sign' p q) = ap suc (encode_size' q)
encode_size' (node' o l a b) = let h = encode_size' a in let k = encode_size' b in simp length-append (omega arith)

pub erased_size : (s : Named) → size (erased s) ≡ size' s
unfolding erased size size'
erased_size (atom' a) = refl
erased_size (var' x) = refl
erased_size (sign' p q) = ap suc (erased_size q)
erased_size (node' o l a b) = ap₂ (λ x y. suc (x + y)) (erased_size a) (erased_size b)

-- ---- the terms of document 01 in both editions

pub erased_counted : (t : Term) → erased (counted t) ≡ t
unfolding erased counted
erased_counted (atom a) = refl
erased_counted (var n) = refl
erased_counted (sign p q) = ap (sign p) (erased_counted q)
erased_counted (node o a b) = ap₂ (node o) (erased_counted a) (erased_counted b)

pub plain_zero : (e : Edition) (b : Bool) → PlainLabel e b (label b 0)
plain_zero e false = tt
plain_zero Counts true = refl
plain_zero Names true = omega arith

pub labelled_zero : (b : Bool) (w : ℕ) → labelled b (label b 0) w ≡ w
labelled_zero true w = omega arith
labelled_zero false w = refl

pub counted_words : (t : Term) → encode' (counted t) ≡ encode t
unfolding counted encode encode'
counted_words (atom a) = refl
counted_words (var n) = refl
counted_words (sign p q) = ap₂ ◌∷◌ refl (counted_words q)
counted_words (node o a b) = ap₂ ◌∷◌ (labelled_zero (binds o) (op_word o)) (ap₂ ◌++◌ (counted_words a) (counted_words b))

pub plain_counted : (e : Edition) (t : Term) → Plain t → Plain' e (counted t)
unfolding counted Plain Plain'
plain_counted e (atom a) p = p
plain_counted e (var n) p = p
plain_counted e (sign n q) p = (p.0, plain_counted e q p.1)
plain_counted e (node o a b) p = (plain_zero e (binds o), plain_counted e a p.0, plain_counted e b p.1)

pub counted_plain : (t : Term) → Plain t → Plain' Counts (counted t)
counted_plain = plain_counted Counts

pub erased_plain : (e : Edition) (s : Named) → Plain' e s → Plain (erased s)
unfolding erased Plain Plain'
erased_plain e (atom' a) p = p
erased_plain e (var' x) p = p
erased_plain e (sign' n q) p = (p.0, erased_plain e q p.1)
erased_plain e (node' o l a b) p = (erased_plain e a p.1, erased_plain e b p.2)

only_zero : (b : Bool) (l : Label b) → PlainLabel Counts b l → label b 0 ≡ l
only_zero true x p = sym p
only_zero false l p = refl

pub counts_counted : (s : Named) → Plain' Counts s → counted (erased s) ≡ s
unfolding erased counted Plain'
counts_counted (atom' a) p = refl
counts_counted (var' x) p = refl
counts_counted (sign' n q) p = ap (sign' n) (counts_counted q p.1)
counts_counted (node' o l a b) p = λ i. node' o (only_zero (binds o) l p.0 i) (counts_counted a p.1 i) (counts_counted b p.2 i)

-- ---- words without names, and without the payloads of variables too

-- what is left of a word, by its tag
clear_word : (e : Edition) (k n : ℕ) → PlainLabel e true n → (unnamed Names (word k n) ≡ cond (shape_binds (word_shape (word k 0))) (word k 0) (word k n)) ×
    (blank (word k n) ≡ cond (eqb k tag_variable) (word k 0) (cond (shape_binds (word_shape (word k 0))) (word k 0) (word k n))) ×
    (payload_of (word k n) ≡ n)
clear_word Counts k n p = let h : tag_of (word k n) ≡ k = omega arith in (rw h refl, rw h refl, omega arith)
clear_word Names k n p = let h : tag_of (word k n) ≡ k = omega arith in (rw h refl, rw h refl, omega arith)

clear_atom : (a : Atom) → PlainAtom a → (unnamed Names (atom_word a) ≡ atom_word a) × (blank (atom_word a) ≡ atom_word a)
clear_atom propA p = (refl, refl)
clear_atom typeA p = (refl, refl)
clear_atom stringA p = (refl, refl)
clear_atom prinA p = (refl, refl)
clear_atom kindPA p = (refl, refl)
clear_atom kindTA p = (refl, refl)
clear_atom (constA n) p = let (h, i, j) = clear_word Names tag_constant n p in (h, i)
clear_atom (textA n) p = let (h, i, j) = clear_word Names tag_text n p in (h, i)
clear_atom (nameA n) p = let (h, i, j) = clear_word Names tag_name n p in (h, i)

pub clear_node : (e : Edition) (o : Op) (l : Label (binds o)) → PlainLabel e (binds o) l → (unnamed Names (labelled (binds o) l (op_word o)) ≡ op_word o) ×
    (blank (labelled (binds o) l (op_word o)) ≡ op_word o) × (label (binds o) (payload_of (labelled (binds o) l (op_word o))) ≡ l)
clear_node e saysO l p = (refl, refl, refl)
clear_node e piO x p = clear_word e tag_pi x p
clear_node e lamO x p = clear_word e tag_lam x p
clear_node e appO l p = (refl, refl, refl)
clear_node e retO l p = (refl, refl, refl)
clear_node e bindO x p = clear_word e tag_bind x p

-- document 01's edition leaves every word as it is
unnamed_word : (e : Edition) (b : Bool) (l : Label b) (w : ℕ) → PlainLabel e b l → unnamed Names (labelled b l w) ≡ w → unnamed e (labelled b l w) ≡ w
unnamed_word Counts b l w p h = ap (λ l. labelled b l w) (sym (only_zero b l p)) ∙ labelled_zero b w
unnamed_word Names b l w p h = h

pub unnamed_words : (e : Edition) (s : Named) → Plain' e s → map (unnamed e) (encode' s) ≡ encode (erased s)
unfolding erased encode encode' Plain'
unnamed_words e (atom' a) p = ap₂ ◌∷◌ (unnamed_word e false tt (atom_word a) tt (clear_atom a p).0) refl
unnamed_words e (var' x) p = ap₂ ◌∷◌ (unnamed_word e false tt (word tag_variable x) tt (clear_word Names tag_variable x p).0) refl
unnamed_words e (sign' n q) p = ap₂ ◌∷◌ (unnamed_word e false tt (word tag_sign n) tt (clear_word Names tag_sign n p.0).0) (unnamed_words e q p.1)
unnamed_words e (node' o l a b) p =
    ap₂ ◌∷◌ (unnamed_word e (binds o) l (op_word o) p.0 (clear_node e o l p.0).0)
    (map-append (unnamed e) (encode' a) (encode' b) ∙ ap₂ ◌++◌ (unnamed_words e a p.1) (unnamed_words e b p.2))

-- the term with every variable 0 and no names
unfoldable pub skeleton : Named → Term
skeleton (atom' a) = atom a
skeleton (var' x) = var 0
skeleton (sign' p q) = sign p (skeleton q)
skeleton (node' o l a b) = node o (skeleton a) (skeleton b)

pub blank_words : (e : Edition) (s : Named) → Plain' e s → map blank (encode' s) ≡ encode (skeleton s)
unfolding skeleton encode encode' Plain'
blank_words e (atom' a) p = ap₂ ◌∷◌ (clear_atom a p).1 refl
blank_words e (var' x) p = ap₂ ◌∷◌ (clear_word Names tag_variable x p).1 refl
blank_words e (sign' n q) p = ap₂ ◌∷◌ (clear_word Names tag_sign n p.0).1 (blank_words e q p.1)
blank_words e (node' o l a b) p =
    ap₂ ◌∷◌ (clear_node e o l p.0).1 (map-append blank (encode' a) (encode' b) ∙ ap₂ ◌++◌ (blank_words e a p.1) (blank_words e b p.2))

pub skeleton_plain : (e : Edition) (s : Named) → Plain' e s → Plain (skeleton s)
unfolding skeleton Plain Plain'
skeleton_plain e (atom' a) p = p
skeleton_plain e (var' x) p = omega arith
skeleton_plain e (sign' n q) p = (p.0, skeleton_plain e q p.1)
skeleton_plain e (node' o l a b) p = (skeleton_plain e a p.1, skeleton_plain e b p.2)

pub skeleton_size : (s : Named) → size (skeleton s) ≡ size' s
unfolding skeleton size size'
skeleton_size (atom' a) = refl
skeleton_size (var' x) = refl
skeleton_size (sign' p q) = ap suc (skeleton_size q)
skeleton_size (node' o l a b) = ap₂ (λ x y. suc (x + y)) (skeleton_size a) (skeleton_size b)
