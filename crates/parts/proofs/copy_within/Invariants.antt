-- The first `i` words, as they stood at the beginning, are pasted.
use Prim.Native.Nat.{◌≤◌}
use mathlib.Core.Path.{◌≡◌}
use lib.ListN.{length, drop}
use lib.Seq.{paste}
use Rattle.parts.proofs.copy_within.Given as goal

abbrev pub invariant-loop-i : goal.invariant-loop-i
invariant-loop-i l = (l.i ≤ l.n) × (l.words ≡ paste l.initial.words l.to (drop l.at l.initial.words) l.i) × (length l.words ≡ length l.initial.words)
