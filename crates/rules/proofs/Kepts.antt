-- Words written before the words kept at the end of a workspace.
use Prim.Native.Nat.{ℕ, ◌+◌, ◌-◌, ◌≤◌}
use native.Mathlib.Omega.{arith}
use mathlib.Core.Path.{◌≡◌, sym, ap, ap₂, ◌∙◌}
use mathlib.Core.List.{List, [], ◌++◌}
use lib.ListN.{length, take, drop, take-append-drop}
use Rattle.logic.specs.Term.{Term, size}
use Rattle.words.specs.Typed.{TypeAt}
use Rattle.words.proofs.Lists.{length_written, written_none, take_written, drop_written}
use Rattle.rules.specs.Scope.{tail}
use Rattle.rules.specs.Enter.{Kept}
use Rattle.rules.proofs.Fronts.{type_part}

-- ---- the words kept

module _ (xs old new : List ℕ) (used r : ℕ) (room : used + length xs ≤ length old) (k : Kept xs used old new r) where
  kept_length : length new ≡ length old
  kept_length = ap length k.words ∙ length_written old (length old - (used + length xs)) xs (omega arith)

  pub kept_tail : tail (used + length xs) new ≡ xs ++ tail used old
  kept_tail =
      let to : ℕ = length old - (used + length xs) in
      let e : length old - (used + length xs) + length xs ≡ length old - used = omega arith in
      ap₂ (λ (n : ℕ) (l : List ℕ). drop (n - (used + length xs)) l) kept_length k.words
      ∙ drop_written old xs to (omega arith)
      ∙ ap (λ (i : ℕ). xs ++ drop i old) e

  -- the type at the front stands there still
  pub kept_type : (A : Term) → used + length xs + size A ≤ length old → TypeAt old 0 A → TypeAt new 0 A
  kept_type A l h =
      let to : ℕ = length old - (used + length xs) in
      record {
        plain = h.plain;
        rest = drop (size A) new;
        words = sym (take-append-drop (size A) new)
            ∙ ap (λ (x : List ℕ). x ++ drop (size A) new) (ap (take (size A)) k.words ∙ take_written old xs to (size A) (omega arith) (omega arith)
            ∙ type_part h);
      }

-- nothing is kept
pub kept_none : (ws : List ℕ) (used : ℕ) → Kept [] used ws ws used
kept_none ws used = record { count = omega arith; words = sym (written_none ws (length ws - (used + 0))) }
