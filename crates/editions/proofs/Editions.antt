-- Words pass tests 6 to 8 of an edition exactly if they are the words of a term of the edition within the limits.
use Prim.Native.Nat.{ℕ, ◌+◌}
use mathlib.Core.Path.{◌≡◌, refl, sym, ap, ap₂, subst, ◌∙◌}
use mathlib.Core.Logic.{◌↔◌}
use mathlib.Core.Bool.{Bool, true, false, cond}
use mathlib.Core.List.{List, [], ◌∷◌, ◌++◌, map, map-id, append_assoc, append-nil, head-eq_of_cons-eq, tail-eq_of_cons-eq}
use lib.ListN.{length, length-map, drop}
use lib.Seq.{drop-drop, drop_at}
use native.Mathlib.Nat.{mod-lt}
use native.Mathlib.Omega.{arith}
use Rattle.logic.specs.Limits.{most_words, most_nesting}
use Rattle.logic.specs.Result.{Result, ok, refused, ◌>>=◌}
use Rattle.logic.specs.Term.{Term, atom, var, sign, node, binds, payload_of, op_word, first_word, encode, size}
use Rattle.logic.specs.Reading.{word_shape, Plain}
use Rattle.logic.specs.Kind.{shape_binds}
use Rattle.logic.specs.Check.{term_of}
use Rattle.logic.proofs.Basics.{clash}
use Rattle.logic.proofs.Results.{ok_inj, bound, bind_is}
use Rattle.logic.proofs.Words.{head, shape_first}
use Rattle.logic.proofs.Check.{term_of_right}
use Rattle.words.proofs.Places.{cons_head, cons_tail}
use Rattle.editions.specs.Named.{Label, Named, atom', var', sign', node', labelled, label, encode', counted, erased}
use Rattle.editions.specs.Edition.{PlainLabel, Plain', WordsOf', tag_word, unnamed, labels, edition_term}
use Rattle.editions.specs.declared.Edition.{Edition}
use Rattle.editions.specs.declared.Edition.TheVariants.{Counts, Names}
use Rattle.editions.proofs.Words.{encode_size', erased_size, erased_counted, plain_zero, labelled_zero, counted_words, counted_plain, erased_plain}
use Rattle.editions.proofs.Words.{clear_node, unnamed_words}

-- ---- from words without names back to a term of the edition

-- w is the word v, with a name of the edition if it is a binder's
abbrev WithName : Edition → ℕ → ℕ → Bool → Type 0
WithName e w v b = (l : Label b) × PlainLabel e b l × (w ≡ labelled b l v)

same_word : (e : Edition) (w v : ℕ) (b : Bool) → w ≡ v → WithName e w v b
same_word e w v b h = (label b 0, plain_zero e b, h ∙ sym (labelled_zero b v))

first_named : (e : Edition) (w : ℕ) (t : Term) → Plain t → unnamed e w ≡ first_word t → WithName e w (first_word t) (shape_binds (head t))
first_named Counts w t p h = same_word Counts w (first_word t) (shape_binds (head t)) h
first_named Names w t p h = go (shape_binds (word_shape (tag_word w))) refl h
  where
    go : (c : Bool) → shape_binds (word_shape (tag_word w)) ≡ c → cond c (tag_word w) w ≡ first_word t
        → WithName Names w (first_word t) (shape_binds (head t))
    go false i h = same_word Names w (first_word t) (shape_binds (head t)) h
    go true i h = subst (WithName Names w (first_word t)) (sym i ∙ ap (λ v. shape_binds (word_shape v)) h ∙ ap shape_binds (shape_first t p))
        (payload_of w, mod-lt w (omega arith), omega arith)

-- ws begin with the words of a term of the edition that without names is t; those behind them are without names rest
abbrev Front : Edition → Term → List ℕ → List ℕ → Type 0
Front e t ws rest = (s : Named) × Plain' e s × (erased s ≡ t) × (behind : List ℕ) × (ws ≡ encode' s ++ behind) × (map (unnamed e) behind ≡ rest)

front : (e : Edition) (t : Term) (ws rest : List ℕ) → Plain t → map (unnamed e) ws ≡ encode t ++ rest → Front e t ws rest
unfolding encode encode' erased Plain Plain'
front e (atom a) [] rest p h = absurd (clash (cc))
front e (var n) [] rest p h = absurd (clash (cc))
front e (sign n q) [] rest p h = absurd (clash (cc))
front e (node o a b) [] rest p h = absurd (clash (cc))
front e (atom a) (w ∷ ws) rest p h =
    let (l, x, i) = first_named e w (atom a) p (head-eq_of_cons-eq h) in (atom' a, p, refl, ws, ap₂ ◌∷◌ i refl, tail-eq_of_cons-eq h)
front e (var n) (w ∷ ws) rest p h =
    let (l, x, i) = first_named e w (var n) p (head-eq_of_cons-eq h) in (var' n, p, refl, ws, ap₂ ◌∷◌ i refl, tail-eq_of_cons-eq h)
front e (sign n q) (w ∷ ws) rest p h =
    let (l, x, i) = first_named e w (sign n q) p (head-eq_of_cons-eq h) in
    let (s, y, j, r, k, m) = front e q ws rest p.1 (tail-eq_of_cons-eq h) in
    (sign' n s, (p.0, y), ap (sign n) j, r, ap₂ ◌∷◌ i k, m)
front e (node o a b) (w ∷ ws) rest p h =
    let F = front e a ws (encode b ++ rest) p.0 (tail-eq_of_cons-eq h ∙ append_assoc (encode a) (encode b) rest) in
    join (first_named e w (node o a b) p (head-eq_of_cons-eq h)) F (front e b F.3 rest p.1 F.5)
  where
    join : WithName e w (op_word o) (binds o) → (F : Front e a ws (encode b ++ rest)) → Front e b F.3 rest → Front e (node o a b) (w ∷ ws) rest
    join (l, x, i) (s, y, j, r, k, m) (s', y', j', r', k', m') =
        let v = k ∙ ap (λ ws. encode' s ++ ws) k' ∙ sym (append_assoc (encode' s) (encode' s') r') in
        (node' o l s s', (x, y, y'), ap₂ (node o) j j', r', ap₂ ◌∷◌ i v, m')

pub named_of : (e : Edition) (ws : List ℕ) (t : Term) → Plain t → map (unnamed e) ws ≡ encode t
    → (s : Named) × Plain' e s × (erased s ≡ t) × (ws ≡ encode' s)
named_of e ws t p h = whole (front e t ws [] p (h ∙ sym (append-nil (encode t))))
  where
    whole : Front e t ws [] → (s : Named) × Plain' e s × (erased s ≡ t) × (ws ≡ encode' s)
    whole (s, x, i, [], j, k) = (s, x, i, j ∙ append-nil (encode' s))
    whole (s, x, i, w ∷ l, j, k) = absurd (clash (cc))

-- ---- a term is read from its words

labels_at : (e : Edition) (s : Named) (ws : List ℕ) (at : ℕ) (rest : List ℕ) → Plain' e s → drop at ws ≡ encode' s ++ rest → labels ws at (erased s) ≡ s
unfolding erased labels encode' Plain'
labels_at e (atom' a) ws at rest p h = refl
labels_at e (var' x) ws at rest p h = refl
labels_at e (sign' n q) ws at rest p h = ap (sign' n) (labels_at e q ws (at + 1) rest p.1 (cons_tail ws at _ _ h))
labels_at e (node' o l a b) ws at rest p h =
    let f = cons_tail ws at _ _ h ∙ append_assoc (encode' a) (encode' b) rest in
    let g : drop (at + 1 + size (erased a)) ws ≡ encode' b ++ rest =
    sym (drop-drop (size (erased a)) (at + 1) ws) ∙ ap (drop (size (erased a))) f
    ∙ drop_at (encode' a) (encode' b ++ rest) (size (erased a)) (encode_size' a ∙ sym (erased_size a)) in
    let x = ap (λ w. label (binds o) (payload_of w)) (cons_head ws at _ _ h) ∙ (clear_node e o l p.0).2 in
    let y = labels_at e a ws (at + 1) (encode' b ++ rest) p.1 f in
    let z = labels_at e b ws (at + 1 + size (erased a)) rest p.2 g in
    λ i. node' o (x i) (y i) (z i)

labels_of : (e : Edition) (ws : List ℕ) (s : Named) → Plain' e s → ws ≡ encode' s → labels ws 0 (erased s) ≡ s
labels_of e ws s p h = labels_at e s ws 0 [] p (h ∙ sym (append-nil (encode' s)))

-- ---- tests 6 to 8

pub edition_term_right : (e : Edition) (ws : List ℕ) (s : Named) → (edition_term e ws ≡ ok s) ↔ WordsOf' e ws s
edition_term_right e ws s = (from, to)
  where
    n : length (map (unnamed e) ws) ≡ length ws
    n = length-map ws (unnamed e)

    from : edition_term e ws ≡ ok s → WordsOf' e ws s
    from h = bound (term_of most_words most_nesting (map (unnamed e) ws)) _ h λ t i j.
        let W = (term_of_right most_words most_nesting (map (unnamed e) ws) t).0 i in
        let (r, p, k, w) = named_of e ws t W.plain W.words in
        subst (WordsOf' e ws) (sym (labels_of e ws r p w) ∙ ap (labels ws 0) k ∙ ok_inj j)
        (record { plain = p; words = w; some_word = rw n at W.some_word; not_more = rw n at W.not_more; nested = rw k W.nested })

    to : WordsOf' e ws s → edition_term e ws ≡ ok s
    to W = bind_is _ ((term_of_right most_words most_nesting (map (unnamed e) ws) (erased s)).1 (record {
      plain = erased_plain e s W.plain;
      words = ap (map (unnamed e)) W.words ∙ unnamed_words e s W.plain;
      some_word = rw n W.some_word;
      not_more = rw n W.not_more;
      nested = W.nested;
    })) (ap ok (labels_of e ws s W.plain W.words))

-- words of document 01 are read as its own reader reads them
pub counts_term : (ws : List ℕ) → edition_term Counts ws ≡ (term_of most_words most_nesting ws >>= λ t. ok (counted t))
counts_term ws = ap (λ (l : List ℕ). term_of most_words most_nesting l >>= λ t. ok (labels ws 0 t)) (map-id ws) ∙ go (term_of most_words most_nesting ws) refl
  where
    go : (r : Result Term) → term_of most_words most_nesting ws ≡ r → (r >>= λ t. ok (labels ws 0 t)) ≡ (r >>= λ t. ok (counted t))
    go (refused m p) h = refl
    go (ok t) h =
        let W = (term_of_right most_words most_nesting ws t).0 h in
        ap ok (ap (labels ws 0) (sym (erased_counted t)) ∙ labels_of Counts ws (counted t) (counted_plain t W.plain) (W.words ∙ sym (counted_words t)))
