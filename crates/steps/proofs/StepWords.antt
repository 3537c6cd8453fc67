-- The words of a step's result: those before the node, those of what a rule makes of it, and those behind it.
use Prim.Native.Nat.{ℕ, ◌+◌, ◌≤◌, ◌<◌}
use native.Mathlib.Omega.{arith}
use mathlib.Core.Path.{◌≡◌, refl, sym, ap, ap₂, subst, ◌∙◌}
use mathlib.Core.List.{List, ◌++◌, append_assoc}
use mathlib.Core.Option.{some}
use mathlib.Core.Bool.{Bool, true, false, cond}
use lib.Dec.{leb}
use lib.ListN.{length, take, drop, length-append}
use lib.Seq.{take_at, drop_at, drop-drop}
use borrow.Author.Tests.{le-leb, lt-leb, leb-true, leb-false}
use Rattle.logic.specs.Term.{Term, node, encode, size}
use Rattle.logic.proofs.Basics.{some_inj}
use Rattle.logic.proofs.Words.{encode_size, plain_in_range, prefix_free}
use Rattle.words.specs.Place.{At, written_at}
use Rattle.words.proofs.Lists.{written_then}
use Rattle.moves.specs.Fill.{FilledTo}
use Rattle.moves.specs.declared.fill.Filled.{Filled}
use Rattle.std.specs.Prelude.{Some, None}
use Rattle.std.specs.Prelude.{Option as Maybe}
use Rattle.std.proofs.lemmas.Option.{cond_some}
use Rattle.reduction.specs.Steps.{next_step}
use Rattle.steps.specs.Step.{SteppedTo}
use Rattle.steps.proofs.Sites.{Site}

-- one term stands at a place
pub unique_at : {ws : List ℕ} {at : ℕ} {s t : Term} → At ws at s → At ws at t → s ≡ t
unique_at {s = s} {t} h k = (prefix_free s t h.rest k.rest (plain_in_range s h.plain) (plain_in_range t k.plain) (sym h.words ∙ k.words)).0

-- what holds of the step of one term that stands there holds of that of any
pub the_step : (P : Term → Type 0) {ws : List ℕ} {s v : Term} → At ws 0 s → next_step s ≡ some v → P v → (t u : Term) → At ws 0 t → next_step t ≡ some u → P u
the_step P h e x t u k f = subst P (some_inj (sym e ∙ ap next_step (unique_at h k) ∙ f)) x

module _ {ws : List ℕ} {t u : Term} {at : ℕ} (h : At ws 0 t) (s : Site 0 t u at) where
  whole : ws ≡ s.before ++ (encode (node s.o s.a s.b) ++ (s.behind ++ h.rest))
  whole =
      let x : List ℕ = encode (node s.o s.a s.b) in
      h.words ∙ ap (λ (l : List ℕ). l ++ h.rest) s.words ∙ append_assoc s.before (x ++ s.behind) h.rest
      ∙ ap (λ (l : List ℕ). s.before ++ l) (append_assoc x s.behind h.rest)

  length_before : length s.before ≡ at
  length_before = omega (arith, s.place)

  pub node_at : At ws at (node s.o s.a s.b)
  node_at = record {
    plain = s.plain h.plain;
    rest = s.behind ++ h.rest;
    words = ap (drop at) whole ∙ drop_at s.before (encode (node s.o s.a s.b) ++ (s.behind ++ h.rest)) at length_before;
  }

  pub before_words : take at (drop 0 ws) ≡ s.before
  before_words = ap (take at) whole ∙ take_at s.before (encode (node s.o s.a s.b) ++ (s.behind ++ h.rest)) at length_before

  pub record StepSizes : Type 0 where
    pub old : size t ≡ at + size (node s.o s.a s.b) + length s.behind
    pub new : size u ≡ at + size s.result + length s.behind

  -- the lengths of three parts
  three : (x y z : List ℕ) → length (x ++ (y ++ z)) ≡ length x + length y + length z
  three x y z = let a = length-append x (y ++ z) in let b = length-append y z in omega arith

  pub step_sizes : StepSizes
  step_sizes =
      let x = node s.o s.a s.b in
      let a : length (encode t) ≡ length s.before + length (encode x) + length s.behind =
      ap length s.words ∙ three s.before (encode x) s.behind in
      let b : length (encode u) ≡ length s.before + length (encode s.result) + length s.behind =
      ap length s.new_words ∙ three s.before (encode s.result) s.behind in
      record {
        old = omega (arith, length_before, encode_size t, encode_size x);
        new = omega (arith, length_before, encode_size u, encode_size s.result);
      }

  pub behind_words : (end rest : ℕ) → end ≡ at + size (node s.o s.a s.b) → rest ≡ length s.behind → take rest (drop end ws) ≡ s.behind
  unfolding node_at
  behind_words end rest e r =
      let x : List ℕ = encode (node s.o s.a s.b) in
      ap (λ (k : ℕ). take rest (drop k ws)) e
      ∙ ap (take rest) (sym (drop-drop (size (node s.o s.a s.b)) at ws) ∙ ap (drop (size (node s.o s.a s.b))) node_at.words
      ∙ drop_at x (s.behind ++ h.rest) _ (encode_size (node s.o s.a s.b)))
      ∙ take_at s.behind h.rest rest (sym r)

  -- what three writes leave
  pub step_written : (old one two new : List ℕ) (end rest from : ℕ) → one ≡ written_at old 0 (take at (drop 0 ws)) →
      two ≡ written_at one at (encode s.result) → new ≡ written_at two end (take rest (drop from ws)) → end ≡ at + size s.result →
      from ≡ at + size (node s.o s.a s.b) →
      rest ≡ length s.behind → new ≡ written_at old 0 (encode u)
  step_written old one two new end rest from p q r e f g =
      let c : List ℕ = encode s.result in
      let i : at ≡ 0 + length s.before = s.place in
      let j : end ≡ 0 + length (s.before ++ c) = omega (arith, length-append s.before c, encode_size s.result, length_before) in
      let x : two ≡ written_at old 0 (s.before ++ c) = q ∙ ap₂ (λ (l : List ℕ) (k : ℕ). written_at l k c) (p ∙ ap (written_at old 0) before_words) i
      ∙ written_then old 0 s.before c (omega arith) in
      r ∙ ap (written_at two end) (behind_words from rest f g)
      ∙ ap₂ (λ (l : List ℕ) (k : ℕ). written_at l k s.behind) x j
      ∙ written_then old 0 (s.before ++ c) s.behind (omega arith)
      ∙ ap (written_at old 0) (append_assoc s.before c s.behind ∙ sym s.new_words)

-- ---- answers

pub step_over : {u : Term} {old new : List ℕ} → length old < size u → SteppedTo u old new None
step_over {u} {old} l = record {
  answer = sym (ap (λ b. cond b (Some (size u)) None) (lt-leb (size u) (length old) l));
  words = λ k. absurd (omega arith);
}

pub step_formed : {u : Term} {old new : List ℕ} {r : ℕ} → size u ≤ length old → r ≡ size u → new ≡ written_at old 0 (encode u) → SteppedTo u old new (Some r)
step_formed {u} {old} l e w = record {
  answer = ap Some e ∙ sym (ap (λ b. cond b (Some (size u)) None) (le-leb (size u) (length old) l));
  words = λ k. w;
}

-- what filling at the place tells
pub record FilledFrom (at : ℕ) (u : Term) (old new : List ℕ) (end : ℕ) : Type 0 where
  pub fits : at + size u ≤ length old
  pub end_is : end ≡ at + size u
  pub words : new ≡ written_at old at (encode u)

pub filled_from : {t v : Term} {u : Term} {from at : ℕ} {old new : List ℕ} {r : Maybe Filled} {f : Filled} → v ≡ u → FilledTo t v from old at new r →
    r ≡ Some f → FilledFrom at u old new f.end
filled_from {t} {v} {u} {from} {at} {old} {new} {f = f} i w e =
    let (b, q) = cond_some (leb (at + size v) (length old)) _ f (sym w.answer ∙ e) in
    let l = leb-true (at + size v) (length old) b in
    subst (λ x. FilledFrom at x old new f.end) i (record { fits = l; end_is = sym (ap (λ (x : Filled). x.end) q); words = w.words l })

pub cond_none : {X : Type 0} (b : Bool) (x : X) → cond b (Some x) None ≡ None → b ≡ false
cond_none true x e = absurd (cc)
cond_none false x e = refl

pub filled_over : {t v : Term} {u : Term} {from at : ℕ} {old new : List ℕ} {r : Maybe Filled} → v ≡ u → FilledTo t v from old at new r → r ≡ None →
    length old < at + size u
filled_over {t} {v} {u} {from} {at} {old} i f e = rw i at
    (leb-false (at + size v) (length old) (cond_none (leb (at + size v) (length old)) _ (sym f.answer ∙ e)))
