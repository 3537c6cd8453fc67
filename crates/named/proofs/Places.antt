-- Where a term of an edition stands in a list of words: its first word, its class and its children's places.
use Prim.Native.Nat.{ℕ, zero, suc, ◌+◌, ◌<◌, ◌≤◌}
use mathlib.Core.Path.{◌≡◌, refl, sym, ap, ◌∙◌}
use mathlib.Core.Bool.{Bool, true, false, cond}
use mathlib.Core.List.{List, [], ◌∷◌, ◌++◌, map, map-append, append_assoc}
use lib.ListN.{length, drop, get_or, length-map, get_or-map}
use lib.Seq.{drop-drop, drop_at}
use native.Mathlib.Omega.{arith}
use Rattle.logic.specs.Limits.{payloads}
use Rattle.logic.specs.Tags.{tag_variable}
use Rattle.logic.specs.Term.{Op, saysO, piO, lamO, appO, retO, bindO, binds, word, op_word, payload_of}
use Rattle.logic.specs.Reading.{word_shape}
use Rattle.logic.specs.Kind.{shape_class, op_class}
use Rattle.logic.specs.declared.word.Class.{Class}
use Rattle.logic.specs.declared.word.Class.TheVariants.{Node, Binder}
use Rattle.logic.proofs.Shapes.{term_class}
use Rattle.words.specs.Place.{At}
use Rattle.words.proofs.Places.{cons_head, cons_tail, class_at, at_end, at_within}
use Rattle.editions.specs.Named.{Label, Named, var', sign', node', label, labelled, encode', size', erased}
use Rattle.editions.specs.Edition.{PlainLabel, Plain', tag_word, unnamed}
use Rattle.named.specs.Answers.{is_binder, EditionAt}
use Rattle.editions.specs.declared.Edition.{Edition}
use Rattle.editions.specs.declared.Edition.TheVariants.{Counts, Names}
use Rattle.editions.proofs.Words.{encode_size', erased_size, erased_plain, unnamed_words, clear_node}

drop_map : (f : ℕ → ℕ) (n : ℕ) (xs : List ℕ) → drop n (map f xs) ≡ map f (drop n xs)
drop_map f zero [] = refl
drop_map f zero (x ∷ xs) = refl
drop_map f (suc n) [] = refl
drop_map f (suc n) (x ∷ xs) = drop_map f n xs

-- without names, the term without them stands there
unnamed_at : {e : Edition} {ws : List ℕ} {at : ℕ} {s : Named} → EditionAt e ws at s → At (map (unnamed e) ws) at (erased s)
unnamed_at {e} {ws} {at} {s} h = record {
  plain = erased_plain e s h.plain;
  rest = map (unnamed e) h.rest;
  words = drop_map (unnamed e) at ws ∙ ap (map (unnamed e)) h.words ∙ map-append (unnamed e) (encode' s) h.rest
      ∙ ap (λ (l : List ℕ). l ++ map (unnamed e) h.rest) (unnamed_words e s h.plain);
}

-- the word at a place, without its name
getD_unnamed : (e : Edition) (ws : List ℕ) (i : ℕ) → get_or (map (unnamed e) ws) i 0 ≡ unnamed e (get_or ws i 0)
getD_unnamed Counts ws i = get_or-map (unnamed Counts) ws i 0
getD_unnamed Names ws i = get_or-map (unnamed Names) ws i 0

-- the class that was found there
pub edition_class : {e : Edition} {ws : List ℕ} {at u : ℕ} {k : Class} {s : Named} → u ≡ unnamed e (get_or ws at 0) → k ≡ shape_class (word_shape u) →
    EditionAt e ws at s → term_class (erased s) ≡ k
edition_class {e} {ws} {at} b f h = class_at (f ∙ ap (λ w. shape_class (word_shape w)) (b ∙ sym (getD_unnamed e ws at))) (unnamed_at h)

pub edition_end : {e : Edition} {ws : List ℕ} {at : ℕ} {s : Named} → EditionAt e ws at s → at + size' s ≤ length ws
edition_end {e} {ws} {at} {s} h = omega (arith, at_end (unnamed_at h), erased_size s, length-map ws (unnamed e))

pub edition_within : {e : Edition} {ws : List ℕ} {at : ℕ} {s : Named} → EditionAt e ws at s → at < length ws
edition_within {e} {ws} h = omega (arith, at_within (unnamed_at h), length-map ws (unnamed e))

-- ---- the children

pub signed_at : {e : Edition} {ws : List ℕ} {at p : ℕ} {q : Named} → EditionAt e ws at (sign' p q) → EditionAt e ws (at + 1) q
unfolding encode' Plain'
signed_at {ws} {at} h = record { plain = h.plain.1; rest = h.rest; words = cons_tail ws at _ _ h.words }

pub first_at : {e : Edition} {ws : List ℕ} {at : ℕ} {o : Op} {l : Label (binds o)} {a b : Named} → EditionAt e ws at (node' o l a b) →
    EditionAt e ws (at + 1) a
unfolding encode' Plain'
first_at {ws} {at} {a} {b} h = record {
  plain = h.plain.1;
  rest = encode' b ++ h.rest;
  words = cons_tail ws at _ _ h.words ∙ append_assoc (encode' a) (encode' b) h.rest;
}

pub second_at : {e : Edition} {ws : List ℕ} {at : ℕ} {o : Op} {l : Label (binds o)} {a b : Named} → EditionAt e ws at (node' o l a b) →
    EditionAt e ws (at + 1 + size' a) b
unfolding first_at Plain'
second_at {ws} {at} {a} h = record {
  plain = h.plain.2;
  rest = h.rest;
  words = sym (drop-drop (size' a) (at + 1) ws) ∙ ap (drop (size' a)) (first_at h).words ∙ drop_at (encode' a) _ (size' a) (encode_size' a);
}

-- ---- the first word

pub variable_word : {e : Edition} {ws : List ℕ} {at x : ℕ} → EditionAt e ws at (var' x) → payload_of (get_or ws at 0) ≡ x
unfolding encode' Plain'
variable_word {ws} {at} {x} h =
    let g : get_or ws at 0 ≡ word tag_variable x = cons_head ws at _ _ h.words in
    let l : x < payloads = h.plain in
    omega arith

pub node_word : {e : Edition} {ws : List ℕ} {at : ℕ} {o : Op} {l : Label (binds o)} {a b : Named} → EditionAt e ws at (node' o l a b) →
    get_or ws at 0 ≡ labelled (binds o) l (op_word o)
unfolding encode'
node_word {ws} {at} h = cons_head ws at _ _ h.words

name_small : (e : Edition) (x : ℕ) → PlainLabel e true x → x < payloads
name_small Counts x p = omega arith
name_small Names x p = p

-- a node's word without its name, and its name
pub node_bare : (e : Edition) (o : Op) (l : Label (binds o)) (w : ℕ) → PlainLabel e (binds o) l → w ≡ labelled (binds o) l (op_word o) →
    cond (binds o) (tag_word w) w ≡ op_word o
node_bare e saysO l w p h = h
node_bare e piO x w p h = let s = name_small e x p in omega arith
node_bare e lamO x w p h = let s = name_small e x p in omega arith
node_bare e appO l w p h = h
node_bare e retO l w p h = h
node_bare e bindO x w p h = let s = name_small e x p in omega arith

pub node_label : (e : Edition) (o : Op) (l : Label (binds o)) (w : ℕ) → PlainLabel e (binds o) l → w ≡ labelled (binds o) l (op_word o) →
    label (binds o) (payload_of w) ≡ l
node_label e o l w p h = ap (λ v. label (binds o) (payload_of v)) h ∙ (clear_node e o l p).2

-- its class tells whether it binds
pub class_binds : (o : Op) (k : Class) → op_class o ≡ k → is_binder k ≡ binds o
class_binds o k h = ap is_binder (sym h) ∙ go (binds o)
  where
    go : (b : Bool) → is_binder (cond b Binder Node) ≡ b
    go true = refl
    go false = refl
