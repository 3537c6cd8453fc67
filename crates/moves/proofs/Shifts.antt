-- What the steps of a shift write.
use Prim.Native.Nat.{ℕ, suc, ◌+◌, ◌-◌, ◌≤◌, ◌<◌}
use native.Mathlib.Omega.{arith}
use mathlib.Core.Path.{◌≡◌, refl, sym, ap, ap₂, subst, ◌∙◌}
use mathlib.Core.List.{List, [], ◌∷◌}
use lib.ListN.{length, take, drop, set, get_or}
use lib.Seq.{set-get_or, take-length}
use lib.IntN.{ℤ, pos}
use Rattle.logic.specs.Tags.{tag_variable}
use Rattle.logic.specs.Term.{Atom, Op, Term, atom, var, sign, node, payload_of, word, op_word, encode, size, binds, under}
use Rattle.logic.specs.Move.{moved, shift, free_from}
use Rattle.logic.proofs.Sub.{shift_below, shift_above}
use Rattle.logic.proofs.FreeVariables.{free_below, free_above, free_size, shift_zero}
use Rattle.logic.proofs.Words.{encode_size}
use Rattle.words.specs.Place.{At, Is, written_at}
use Rattle.words.proofs.Lists.{written_set, written_node, written_same, written_over, drop_written}
use Rattle.words.proofs.Places.{at_head, at_end, at_part, at_payload, at_after, at_left, at_right, Halves}
use Rattle.logic.specs.declared.word.Class.{Class}
use Rattle.moves.specs.Shift.{Shifted}
use Rattle.moves.specs.declared.shift.Shift.{Shift}

pub size_shift : (c : ℕ) (z : ℤ) (t : Term) → size (shift c z t) ≡ size t
unfolding size shift
size_shift c z (atom a) = refl
size_shift c z (var n) = refl
size_shift c z (sign p q) = refl
size_shift c z (node o a b) = ap₂ (λ (x y : ℕ). suc (x + y)) (size_shift c z a) (size_shift (under (binds o) suc c) z b)

pub length_shift : (c : ℕ) (z : ℤ) (t : Term) → length (encode (shift c z t)) ≡ size t
length_shift c z t = encode_size (shift c z t) ∙ size_shift c z t

-- ---- in place

-- the first child's words leave the second where it stands
pub second_stands : (ws mid : List ℕ) (at c : ℕ) (r : Shift) (z : ℤ) (a b : Term) → at < length ws → Shifted a c z ws (at + 1) mid r
    → At ws (at + 1 + size a) b → At mid (at + 1 + r.words) b
second_stands ws mid at c r z a b l f h =
    let n = length_shift c z a in
    subst (λ (m : List ℕ). At m (at + 1 + r.words) b) (sym f.words)
    (at_after (at + 1) (encode (shift c z a)) (omega arith) (omega (arith, f.words_are)) (subst (λ (i : ℕ). At ws (at + 1 + i) b) (sym f.words_are) h))

-- what is counted is no more than the words
pub counts : {t : Term} {c to : ℕ} {z : ℤ} {old new : List ℕ} {r : Shift} → Shifted t c z old to new r → (r.words ≡ size t) × (r.free ≤ size t)
counts {t} {c} s = let f = free_size c t in (s.words_are, omega (arith, s.free_is))

-- a node's second child, when the first is shifted
pub record Second (mid : List ℕ) (at : ℕ) (t : Term) (r : Shift) : Type 0 where
  pub term : Term
  pub here : At mid (at + 1 + r.words) term
  pub whole : size t ≡ 1 + r.words + size term
  pub few : r.free ≤ r.words

pub second : {ws : List ℕ} (mid : List ℕ) {at : ℕ} (c : ℕ) {k : Class} {z : ℤ} {t : Term} (r : Shift) → Halves ws at k t → at < length ws
    → ((a : Term) → At ws (at + 1) a → Shifted a c z ws (at + 1) mid r) → Second mid at t r
second {ws} mid {at} c {z} r h l f =
    let s = f h.first h.left in
    let n = counts s in
    record { term = h.second; here = second_stands ws mid at c r z h.first h.second l s h.right; whole = omega (arith, h.whole); few = omega arith }

-- the words that stand there are the shifted term's
unmoved : {ws : List ℕ} {at : ℕ} (c : ℕ) (z : ℤ) (t : Term) → At ws at t → shift c z t ≡ t → ws ≡ written_at ws at (encode (shift c z t))
unmoved {ws} {at} c z t h e = sym (written_same ws at (size t) (at_end h)) ∙ ap (written_at ws at) (at_part h ∙ ap encode (sym e))

-- so a shift by 0 leaves the list as it is
pub zero_shifted : {ws mid : List ℕ} {at c : ℕ} {t : Term} {r : Shift} → At ws at t → Shifted t c (pos 0) ws at mid r → mid ≡ ws
zero_shifted {c} {t} h f = f.words ∙ sym (unmoved c (pos 0) t h (shift_zero c t))

module _ (ws : List ℕ) (at c : ℕ) (z : ℤ) where
  -- an atom or a Sign stays, and no variable is counted in it
  kept : (next : ℕ) (t : Term) → At ws at t → shift c z t ≡ t → free_from c t ≡ 0 → next ≡ at + size t
      → Shifted t c z ws at ws (record { words = next - at; free = 0 })
  kept next t h s f e = record { words_are = omega arith; free_is = sym f; words = unmoved c z t h s }

  pub atom_kept : (next : ℕ) (a : Atom) → At ws at (atom a) → next ≡ at + size (atom a) → Shifted (atom a) c z ws at ws (record { words = next - at; free = 0 })
  unfolding shift free_from
  atom_kept next a h e = kept next (atom a) h refl refl e

  pub sign_kept : (next n : ℕ) (q : Term) → At ws at (sign n q) → next ≡ at + size (sign n q)
      → Shifted (sign n q) c z ws at ws (record { words = next - at; free = 0 })
  unfolding shift free_from
  sign_kept next n q h e = kept next (sign n q) h refl refl e

  -- a variable that is bound stays
  pub bound_shifted : (p : ℕ) → p ≡ payload_of (get_or ws at 0) → p < c → (n : ℕ) → At ws at (var n)
      → Shifted (var n) c z ws at ws (record { words = 1; free = 0 })
  unfolding size
  bound_shifted p j l n h =
      let i : p ≡ n = j ∙ at_payload ws at n h in
      let b : n < c = omega arith in
      record { words_are = refl; free_is = sym (free_below b); words = unmoved c z (var n) h (shift_below z b) }

  -- z' is the amount as it is read back from its bits
  pub var_shifted : {z' : ℤ} (p : ℕ) {r : ℕ} → z' ≡ z → at < length ws → p ≡ payload_of (get_or ws at 0) → c ≤ p → r ≡ moved z' p
      → (n : ℕ) → At ws at (var n) → Shifted (var n) c z ws at (set ws at (word tag_variable r)) (record { words = 1; free = 1 })
  unfolding size encode
  var_shifted p i l j b f n h =
      let e : p ≡ n = j ∙ at_payload ws at n h in
      let g : c ≤ n = omega arith in
      record {
        words_are = refl;
        free_is = sym (free_above g);
        words = written_set ws at _ l
            ∙ ap (λ (v : ℕ). written_at ws at (word tag_variable v ∷ [])) (f ∙ ap₂ moved i e)
            ∙ ap (λ (u : Term). written_at ws at (encode u)) (sym (shift_above z g));
      }

  pub node_shifted : {mid new : List ℕ} {z' : ℤ} (o : Op) (a b : Term) {d : ℕ} {ra rb : Shift} → z' ≡ z → at < length ws
      → ((a : Term) → At ws (at + 1) a → Shifted a c z' ws (at + 1) mid ra)
      → ((b : Term) → At mid (at + 1 + ra.words) b → Shifted b d z' mid (at + 1 + ra.words) new rb)
      → d ≡ under (binds o) suc c → At ws at (node o a b)
      → Shifted (node o a b) c z ws at new (record { words = 1 + ra.words + rb.words; free = ra.free + rb.free })
  unfolding size shift free_from encode
  node_shifted {mid} {new} {z'} o a b {d} {ra} {rb} i l f g q h =
      let F = f a (at_left h) in
      let G = g b (second_stands ws mid at c ra z' a b l F (at_right h)) in
      let x : List ℕ = encode (shift c z a) in
      let y : List ℕ = encode (shift (under (binds o) suc c) z b) in
      let there : ws ≡ set ws at (op_word o) = sym (set-get_or ws at 0) ∙ ap (set ws at) (at_head h) in
      record {
        words_are = omega (arith, F.words_are, G.words_are);
        free_is = ap₂ ◌+◌ F.free_is (G.free_is ∙ ap (λ (n : ℕ). free_from n b) q);
        words = written_node ws mid new at (op_word o) ra.words x y l (F.words_are ∙ sym (length_shift c z a))
            (F.words ∙ ap₂ (λ (v : ℤ) (m : List ℕ). written_at m (at + 1) (encode (shift c v a))) i there)
            (G.words ∙ ap₂ (λ (v : ℤ) (n : ℕ). written_at mid (at + 1 + ra.words) (encode (shift n v b))) i q);
      }

-- ---- copied, and then shifted in place

module _ (src old mid : List ℕ) (to : ℕ) (l : to ≤ length old) (w : mid ≡ written_at old to (take (length src) (drop 0 src)))
    {t : Term} (i : Is src t) where
  copied : mid ≡ written_at old to (encode t)
  copied = w ∙ ap (written_at old to) (take-length src ∙ i.words)

  -- the copy stands there
  pub copy_stands : At mid to t
  copy_stands =
      let rest : List ℕ = drop (to + length (encode t)) old in
      record {
        plain = i.plain;
        rest = rest;
        words = ap (drop to) copied ∙ drop_written old (encode t) to l;
      }

  pub copy_shifted : {c : ℕ} {z z' : ℤ} {new : List ℕ} {r : Shift} → z' ≡ z → ((u : Term) → At mid to u → Shifted u c z' mid to new r)
      → Shifted t c z old to new r
  copy_shifted {c} {z} {z'} {new} {r} j f =
      let s = f t copy_stands in
      record {
        words_are = s.words_are;
        free_is = s.free_is;
        words = s.words
            ∙ ap₂ (λ (m : List ℕ) (v : ℤ). written_at m to (encode (shift c v t))) copied j
            ∙ written_over old to (encode t) (encode (shift c z t)) l (encode_size t ∙ sym (length_shift c z t));
      }
