-- What the steps of a filling answer and write.
use Prim.Native.Nat.{ℕ, suc, ◌+◌, ◌-◌, ◌≤◌, ◌<◌}
use native.Mathlib.Omega.{arith}
use mathlib.Core.Path.{◌≡◌, refl, sym, ap, ap₂, subst, ◌∙◌}
use mathlib.Core.Bool.{Bool, true, false, cond}
use mathlib.Core.List.{List, [], ◌∷◌}
use Rattle.std.specs.Prelude.{Option, Some, None}
use lib.ListN.{length, take, drop, set, get_or, length-set}
use lib.Dec.{leb}
use lib.IntN.{ℤ, pos}
use borrow.Author.Tests.{le-leb, lt-leb, leb-true, leb-false}
use Rattle.logic.specs.Tags.{tag_variable}
use Rattle.logic.specs.Term.{Atom, Op, Term, atom, var, sign, node, payload_of, word, op_word, encode, size, binds, under}
use Rattle.logic.specs.Move.{shift, raise, fill_at}
use Rattle.logic.proofs.Words.{encode_size, size_pos}
use Rattle.logic.proofs.Fill.{fill_below, fill_here, fill_above}
use Rattle.words.specs.Place.{At, Is, written_at}
use Rattle.words.proofs.Lists.{written_set, written_node, length_written}
use Rattle.words.proofs.Places.{at_head, part_is, at_left, at_right, size_is, at_payload}
use Rattle.moves.specs.Shift.{Shifted}
use Rattle.moves.specs.declared.shift.Shift.{Shift}
use Rattle.moves.specs.Fill.{FilledTo}
use Rattle.moves.specs.declared.fill.Filled.{Filled}
use Rattle.moves.proofs.Shifts.{size_shift}

-- r and new are what filling answers and writes, for any term and filler that stand there
abbrev pub Fills : List ℕ → ℕ → ℕ → List ℕ → List ℕ → ℕ → List ℕ → Option Filled → Type 0
Fills ws at c fs old to new r = (t e : Term) → At ws at t → Is fs e → FilledTo t (fill_at c e t) at old to new r

-- a law of a term and a filler, the filler first
pub each : {ws fs : List ℕ} {at : ℕ} {F : Term → Term → Type 0}
    → ((e : Term) → Is fs e → (t : Term) → At ws at t → F t e) → (t e : Term) → At ws at t → Is fs e → F t e
each f t e h i = f e i t h

-- ---- answers

-- the answer, where there is room up to the end
abbrev within : Bool → (next end : ℕ) → Option Filled
within b next end = cond b (Some (record { next = next; end = end })) None

module _ (t u : Term) (at : ℕ) (old : List ℕ) (to : ℕ) (new : List ℕ) where
  done : (next end : ℕ) → next ≡ at + size t → end ≡ to + size u → end ≤ length old → new ≡ written_at old to (encode u)
      → FilledTo t u at old to new (Some (record { next = next; end = end }))
  done next end n e l w =
      let h : to + size u ≤ length old = omega arith in
      record { answer = simp (le-leb (to + size u) (length old) h) (ap₂ (λ (x y : ℕ). within true x y) n e); words = λ x. w }

  over : length old < to + size u → FilledTo t u at old to new None
  over l = record { answer = simp (lt-leb (to + size u) (length old) l); words = λ x. absurd (omega arith) }

-- a term of at least one word does not fit
pub none_over : (t u : Term) (at : ℕ) (old : List ℕ) (to : ℕ) → length old ≤ to → FilledTo t u at old to old None
none_over t u at old to l = let p = size_pos u in over t u at old to old (omega arith)

pub record Was (t u : Term) (at : ℕ) (len to next end : ℕ) : Type 0 where
  pub next_is : next ≡ at + size t
  pub end_is : end ≡ to + size u
  pub fits : end ≤ len

-- what an answer tells
module _ (t u : Term) (at to len : ℕ) {r : Option Filled} (e : r ≡ within (leb (to + size u) len) (at + size t) (to + size u)) where
  pub done_is : (f : Filled) → r ≡ Some f → Was t u at len to f.next f.end
  done_is f q = go (leb (to + size u) len) refl (sym q ∙ e)
    where
      go : (b : Bool) → leb (to + size u) len ≡ b → Some f ≡ within b (at + size t) (to + size u) → Was t u at len to f.next f.end
      go true b i =
          let x : f ≡ record { next = at + size t; end = to + size u } = cc in
          let y : f.end ≡ to + size u = ap (λ (g : Filled). g.end) x in
          record { next_is = ap (λ (g : Filled). g.next) x; end_is = y; fits = omega (arith, leb-true (to + size u) len b) }
      go false b i = absurd (cc)

  pub over_is : r ≡ None → len < to + size u
  over_is q = go (leb (to + size u) len) refl (sym q ∙ e)
    where
      go : (b : Bool) → leb (to + size u) len ≡ b → None ≡ within b (at + size t) (to + size u) → len < to + size u
      go true b i = absurd (cc)
      go false b i = leb-false (to + size u) len b

-- ---- a variable

-- n is the number that was found of the variable m
module _ (ws fs : List ℕ) (at c : ℕ) (old : List ℕ) (to n : ℕ) (l : to ≤ length old) (j : n ≡ payload_of (get_or ws at 0))
    (m : ℕ) (e : Term) (h : At ws at (var m)) (i : Is fs e) where
  number : n ≡ m
  number = j ∙ at_payload ws at m h

  -- the filler is raised, and has as many words
  raised_words : size (raise c e) ≡ length fs
  raised_words = size_shift 0 (pos c) e ∙ sym (size_is fs e i)

  -- what is written of u is written of the variable that u replaces
  replaced : {u : Term} {new : List ℕ} {r : Option Filled} → fill_at c e (var m) ≡ u → FilledTo (var m) u at old to new r
      → FilledTo (var m) (fill_at c e (var m)) at old to new r
  replaced {u} {new} {r} q f = subst (λ (v : Term). FilledTo (var m) v at old to new r) (sym q) f

  pub same_done : {z : ℤ} (new : List ℕ) (w : Shift) → z ≡ pos c → length fs ≤ length old - to → n ≡ c → Shifted e 0 z old to new w
      → FilledTo (var m) (fill_at c e (var m)) at old to new (Some (record { next = at + 1; end = to + w.words }))
  unfolding size
  same_done {z} new w p f q s =
      let b = size_is fs e i in
      replaced (fill_here e (sym number ∙ q))
      (done (var m) (raise c e) at old to new (at + 1) (to + w.words) refl (omega (arith, s.words_are, raised_words)) (omega (arith, s.words_are))
      (s.words ∙ ap (λ (v : ℤ). written_at old to (encode (shift 0 v e))) p))

  pub same_over : length old - to < length fs → n ≡ c → FilledTo (var m) (fill_at c e (var m)) at old to old None
  same_over f q = replaced (fill_here e (sym number ∙ q)) (over (var m) (raise c e) at old to old (omega (arith, raised_words)))

  pub low_done : (v : ℕ) → v ≡ get_or ws at 0 → to < length old → n < c
      → FilledTo (var m) (fill_at c e (var m)) at old to (set old to v) (Some (record { next = at + 1; end = to + 1 }))
  unfolding size encode
  low_done v s r q =
      let x = number in
      replaced (fill_below e (omega arith))
      (done (var m) (var m) at old to _ (at + 1) (to + 1) refl refl (omega arith)
      (written_set old to _ r ∙ ap (λ (v : ℕ). written_at old to (v ∷ [])) (s ∙ at_head h)))

  pub high_done : (v : ℕ) → v ≡ word tag_variable (n - 1) → to < length old → c ≤ n → (n ≡ c → ⊥)
      → FilledTo (var m) (fill_at c e (var m)) at old to (set old to v) (Some (record { next = at + 1; end = to + 1 }))
  unfolding size encode
  high_done v s r q d =
      let x = number in
      replaced (fill_above e (omega arith))
      (done (var m) (var (m - 1)) at old to _ (at + 1) (to + 1) refl refl (omega arith)
      (written_set old to _ r ∙ ap (λ (v : ℕ). written_at old to (v ∷ [])) (s ∙ ap (λ (v : ℕ). word tag_variable (v - 1)) x)))

-- ---- a Sign and an atom stay

module _ {ws : List ℕ} {at : ℕ} (c : ℕ) (old : List ℕ) (to : ℕ) (e : Term) where
  pub sign_filled : {new : List ℕ} (next n : ℕ) (q : Term) → At ws at (sign n q) → next ≡ at + size (sign n q)
      → to ≤ length old → next - at ≤ length old - to → new ≡ written_at old to (take (next - at) (drop at ws))
      → FilledTo (sign n q) (fill_at c e (sign n q)) at old to new (Some (record { next = next; end = to + (next - at) }))
  unfolding fill_at
  sign_filled next n q h i l m w =
      done (sign n q) (sign n q) at old to _ next (to + (next - at)) i (omega arith) (omega arith) (w ∙ ap (written_at old to) (part_is next h i))

  pub sign_over : (next n : ℕ) (q : Term) → At ws at (sign n q) → next ≡ at + size (sign n q) → length old - to < next - at
      → FilledTo (sign n q) (fill_at c e (sign n q)) at old to old None
  unfolding fill_at
  sign_over next n q h i l = over (sign n q) (sign n q) at old to old (omega arith)

  pub atom_filled : (a : Atom) → At ws at (atom a) → to < length old
      → FilledTo (atom a) (fill_at c e (atom a)) at old to (set old to (get_or ws at 0)) (Some (record { next = at + 1; end = to + 1 }))
  unfolding fill_at size encode
  atom_filled a h l =
      done (atom a) (atom a) at old to _ (at + 1) (to + 1) refl refl (omega arith)
      (written_set old to _ l ∙ ap (λ (w : ℕ). written_at old to (w ∷ [])) (at_head h))

-- ---- a node

same_answer : (n n' x x' len len' : ℕ) → n ≡ n' → x ≡ x' → len ≡ len' → within (leb x len) n x ≡ within (leb x' len') n' x'
same_answer n n' x x' len len' p q r = ap (λ (y : ℕ). within (leb x len) y x) p ∙ ap₂ (λ (y l : ℕ). within (leb y l) n' y) q r

module _ (ws fs : List ℕ) (at c : ℕ) (old mid : List ℕ) (to : ℕ) {r : Option Filled}
    (f : Fills ws (at + 1) c fs (set old to (get_or ws at 0)) (to + 1) mid r) (o : Op) (a b e : Term) (h : At ws at (node o a b)) (i : Is fs e) where
  pub node_over : {last : Option Filled} → r ≡ None → last ≡ None → FilledTo (node o a b) (fill_at c e (node o a b)) at old to mid last
  unfolding fill_at size
  node_over v q =
      let l : length (set old to (get_or ws at 0)) ≡ length old = length-set old to (get_or ws at 0) in
      let g = over_is a (fill_at c e a) (at + 1) (to + 1) _ (f a e (at_left h) i).answer v in
      subst (FilledTo (node o a b) (fill_at c e (node o a b)) at old to mid) (sym q) (over (node o a b) (fill_at c e (node o a b)) at old to mid (omega arith))

  pub node_filled : {new : List ℕ} {last : Option Filled} (d : ℕ) (was : Filled) → d ≡ under (binds o) suc c → to < length old → r ≡ Some was
      → Fills ws was.next d fs mid was.end new last → FilledTo (node o a b) (fill_at c e (node o a b)) at old to new last
  unfolding fill_at size encode
  node_filled {new} {last} d was p l v g =
      let x : Term = fill_at c e a in
      let y : Term = fill_at (under (binds o) suc c) e b in
      let s : length (set old to (get_or ws at 0)) ≡ length old = length-set old to (get_or ws at 0) in
      let fa = f a e (at_left h) i in
      let ends = done_is a x (at + 1) (to + 1) _ fa.answer was v in
      let la : length (encode x) ≡ size x = encode_size x in
      let en : was.end ≡ to + 1 + length (encode x) = omega (arith, ends.end_is) in
      let mw = fa.words (omega (arith, ends.end_is, ends.fits)) in
      let lm : length mid ≡ length old = ap length mw
      ∙ length_written (set old to (get_or ws at 0)) (to + 1) (encode x) (omega (arith, ends.end_is, ends.fits)) ∙ s in
      let gb = subst (λ (n : ℕ). FilledTo b (fill_at n e b) was.next mid was.end new last) p
      (g b e (subst (λ (n : ℕ). At ws n b) (sym ends.next_is) (at_right h)) i) in
      let nx : was.next + size b ≡ at + suc (size a + size b) = omega (arith, ends.next_is) in
      let ex : was.end + size y ≡ to + suc (size x + size y) = omega (arith, ends.end_is) in
      record {
        answer = gb.answer ∙ same_answer _ _ _ _ _ _ nx ex lm;
        words = λ fits. written_node old mid new to (op_word o) _ (encode x) (encode y) l refl
            (mw ∙ ap (λ (w : ℕ). written_at (set old to w) (to + 1) (encode x)) (at_head h))
            (gb.words (omega arith) ∙ ap (λ (n : ℕ). written_at mid n (encode y)) en);
      }
