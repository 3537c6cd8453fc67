-- The first `i` words are pasted.
use Prim.Native.Nat.{◌≤◌}
use mathlib.Core.Path.{◌≡◌}
use lib.Seq.{paste}
use lib.ListN.{length, drop}
use Rattle.parts.proofs.copy.Given as goal

abbrev pub invariant-loop-i : goal.invariant-loop-i
invariant-loop-i l = (l.i ≤ l.n) × (l.out ≡ paste l.initial.out l.to (drop l.at l.src) l.i) × (length l.out ≡ length l.initial.out)
