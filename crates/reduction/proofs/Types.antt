-- A simplified term has the type of the term, no other Signs, and words.
use Prim.Native.Nat.{ℕ, ◌≤◌}
use mathlib.Core.Path.{refl}
use mathlib.Core.Logic.{◌⊎◌, inl, inr}
use mathlib.Core.List.{List, []}
use native.Mathlib.Omega.{arith}
use lib.IntN.{ℤ, pos}
use borrow.Author.Tests.{lt-ltb, le-ltb, eq-eqb, ne_eqb}
use Rattle.logic.specs.Limits.{payloads, most_words, most_nesting}
use Rattle.logic.specs.Term.{Op, Term, atom, var, sign, node, size, encode}
use Rattle.logic.specs.Move.{shift, fill_at}
use Rattle.logic.specs.Typing.{Has}
use Rattle.logic.specs.Scope.{Signature}
use Rattle.logic.specs.Reading.{Plain, SubtermAt, in_first, in_second, Embedded}
use Rattle.logic.specs.Check.{WordsOf, Passes}
use Rattle.logic.specs.Reduce.{Reduces, beta, bind_ret, bind_unused, step_function, step_lam, step_ret, step_bound, step_rest}
use Rattle.logic.proofs.Basics.{compare_cases}
use Rattle.logic.proofs.Words.{encode_size, size_pos, plain_in_range}
use Rattle.logic.proofs.Range.{Named, in_range_named, named_shift, plain_typed}
use Rattle.logic.proofs.SubjectReduction.{subject_reduction}
use Rattle.reduction.specs.Simplify.{FirstSteps, no_step, one_step}
use Rattle.reduction.proofs.Simplify.{steps_in_limits}

-- ---- types

module _ (Σ : List Term) (sig : Signature Σ) where
  pub steps_typed : {n : ℕ} {Γ : List Term} {t u A : Term} → FirstSteps n t u → Has Σ Γ t A → Has Σ Γ u A
  steps_typed no_step h = h
  steps_typed (one_step f l s) h = steps_typed s (subject_reduction Σ sig f.taken h)

-- ---- Signs: moving and filling make none

either_child : {n : ℕ} {q a b : Term} {o : Op} → Embedded n q (node o a b) → Embedded n q a ⊎ Embedded n q b
either_child (i, d, in_first st) = inl (_, _, st)
either_child (i, d, in_second st) = inr (_, _, st)

no_sign : {n m : ℕ} {q : Term} → Embedded n q (var m) → ⊥
no_sign (i, d, st) = go st
  where
    go : {n m i d : ℕ} {q : Term} → SubtermAt (sign n q) i d (var m) → ⊥
    go = elim [ ]

in_left : {n : ℕ} {q a b : Term} {o : Op} → Embedded n q a → Embedded n q (node o a b)
in_left (i, d, st) = (_, _, in_first st)

in_right : {n : ℕ} {q a b : Term} {o : Op} → Embedded n q b → Embedded n q (node o a b)
in_right (i, d, st) = (_, _, in_second st)

shift_signs : {n : ℕ} {q : Term} (c : ℕ) (z : ℤ) (t : Term) → Embedded n q (shift c z t) → Embedded n q t
unfolding shift
shift_signs c z (atom a) e = e
shift_signs c z (var m) e = absurd (no_sign e)
shift_signs c z (sign m r) e = e
shift_signs c z (node o a b) e = elim (either_child e) [ inl x ↦ in_left (shift_signs c z a x) | inr x ↦ in_right (shift_signs _ z b x) ]

fill_signs : {n : ℕ} {q : Term} (c : ℕ) (u t : Term) → Embedded n q (fill_at c u t) → Embedded n q t ⊎ Embedded n q u
unfolding fill_at
fill_signs c u (atom a) e = inl e
fill_signs {n} {q} c u (var m) e = elim (compare_cases m c) [
  | inl l ↦ absurd (no_sign (rw (lt-ltb m c l) at e))
  | inr (inl p) ↦ inr (shift_signs 0 (pos c) u (rw (le-ltb m c (omega arith), eq-eqb m c p) at e))
  | inr (inr g) ↦ absurd (no_sign (rw (le-ltb m c (omega arith), ne_eqb m c (omega arith)) at e))
]
fill_signs c u (sign m r) e = inl e
fill_signs c u (node o a b) e = elim (either_child e) [
  | inl x ↦ elim (fill_signs c u a x) [ inl y ↦ inl (in_left y) | inr y ↦ inr y ]
  | inr x ↦ elim (fill_signs _ u b x) [ inl y ↦ inl (in_right y) | inr y ↦ inr y ]
]

-- a Sign embedded in what a step gives was embedded in the term
step_signs : {n : ℕ} {q t u : Term} → Reduces t u → Embedded n q u → Embedded n q t
step_signs (beta {b} {e}) x = elim (fill_signs 0 e b x) [ inl y ↦ in_left (in_right y) | inr y ↦ in_right y ]
step_signs (bind_ret {e} {b}) x = elim (fill_signs 0 e b x) [ inl y ↦ in_right y | inr y ↦ in_left (in_right y) ]
step_signs (bind_unused {b} o) x = in_right (shift_signs 0 _ b x)
step_signs (step_function s) x = elim (either_child x) [ inl y ↦ in_left (step_signs s y) | inr y ↦ in_right y ]
step_signs (step_lam s) x = elim (either_child x) [ inl y ↦ in_left y | inr y ↦ in_right (step_signs s y) ]
step_signs (step_ret s) x = elim (either_child x) [ inl y ↦ in_left y | inr y ↦ in_right (step_signs s y) ]
step_signs (step_bound s) x = elim (either_child x) [ inl y ↦ in_left (step_signs s y) | inr y ↦ in_right y ]
step_signs (step_rest s) x = elim (either_child x) [ inl y ↦ in_left y | inr y ↦ in_right (step_signs s y) ]

pub steps_signs : {n m : ℕ} {q t u : Term} → FirstSteps n t u → Embedded m q u → Embedded m q t
steps_signs no_step x = x
steps_signs (one_step f l s) x = step_signs f.taken (steps_signs s x)

-- ---- words: payloads other than variables stay in range, and a typed term's variables are those of its binders

named_fill : (c : ℕ) (e t : Term) → Named e → Named t → Named (fill_at c e t)
unfolding Named fill_at
named_fill c e (atom a) h p = p
named_fill c e (var n) h p = elim (compare_cases n c) [
  | inl l ↦ rw (lt-ltb n c l) tt
  | inr (inl q) ↦ rw (le-ltb n c (omega arith), eq-eqb n c q) (named_shift 0 (pos c) e h)
  | inr (inr g) ↦ rw (le-ltb n c (omega arith), ne_eqb n c (omega arith)) tt
]
named_fill c e (sign n q) h p = p
named_fill c e (node o a b) h p = (named_fill c e a h p.0, named_fill _ e b h p.1)

step_named : {t u : Term} → Reduces t u → Named t → Named u
unfolding Named
step_named (beta {b} {e}) p = named_fill 0 e b p.1 p.0.1
step_named (bind_ret {e} {b}) p = named_fill 0 e b p.0.1 p.1
step_named (bind_unused {b} o) p = named_shift 0 _ b p.1
step_named (step_function s) p = (step_named s p.0, p.1)
step_named (step_lam s) p = (p.0, step_named s p.1)
step_named (step_ret s) p = (p.0, step_named s p.1)
step_named (step_bound s) p = (step_named s p.0, p.1)
step_named (step_rest s) p = (p.0, step_named s p.1)

-- what a step makes of a typed term with words has words
pub step_plain : {Σ : List Term} {t u A : Term} → Reduces t u → Has Σ [] u A → size u ≤ payloads → Plain t → Plain u
step_plain {t} s h few p = plain_typed h (omega arith) (step_named s (in_range_named t (plain_in_range t p)))

steps_plain : {n : ℕ} {Σ : List Term} {t u A : Term} → Signature Σ → FirstSteps n t u → Has Σ [] t A → Plain t → Plain u
steps_plain sig no_step h p = p
steps_plain {Σ} sig (one_step f l s) h p =
    let k = subject_reduction Σ sig f.taken h in
    steps_plain sig s k (step_plain f.taken k (omega (arith, l.short)) p)

-- the words of a result pass tests 6 to 8
pub steps_words : {n : ℕ} {Σ : List Term} {ws : List ℕ} {t u A : Term} → Signature Σ → FirstSteps n t u → Passes Σ ws t A →
    WordsOf most_words most_nesting (encode u) u
steps_words {t} {u} sig s h =
    let w = h.term in
    let k : size t ≤ most_words = rw (← encode_size t, ← w.words) w.not_more in
    let l = steps_in_limits s (record { short = k; nested = w.nested }) in
    record {
      plain = steps_plain sig s h.derivation w.plain;
      words = refl;
      some_word = rw (encode_size u) (size_pos u);
      not_more = rw (encode_size u) l.short;
      nested = l.nested;
    }
