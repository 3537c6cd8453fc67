-- `copy_within` copies words inside a list, by a loop. The invariant: the first `i` of them, as they stood at the
-- beginning, are pasted; as none is written over before it is read, the next one is still what it was.
use Prim.Native.Nat.{ℕ, ◌+◌}
use mathlib.Core.Path.{◌≡◌, refl, ap, ◌∙◌}
use mathlib.Core.List.{List}
use native.Mathlib.Omega.{arith}
use lib.ListN.{drop, set, get_or, length-drop, length-set}
use lib.Seq.{paste, paste-zero}
use Rattle.words.proofs.Lists.{copy_turn, copy_reads, paste_written}
use Rattle.parts.proofs.copy_within.Goals as goal

pub loop-i-init : goal.loop-i-init
loop-i-init c = let a = c.args in (omega arith, paste-zero a.words.now a.to (drop a.at a.words.now), refl)

pub loop-i-preserved : goal.loop-i-preserved
loop-i-preserved c =
    let a = c.args in
    let p = c.requires in
    let r = ap (λ (m : List ℕ). get_or m (a.at + c.loop-i.i) 0) c.loop-i.invariant.1
    ∙ copy_reads a.words.now a.at a.n a.to c.loop-i.i p c.loop-i-test.true in (
      omega arith,
      ap (set c.loop-i.words (a.to + c.loop-i.i)) r
          ∙ copy_turn a.words.now c.loop-i.words a.words.now a.to a.at c.loop-i.i c.loop-i.invariant.1 (omega arith) (omega arith),
      simp
          length-set c.loop-i.invariant.2,
    )

pub returns : goal.returns
returns c =
    let a = c.args in
    let d : List ℕ = drop a.at a.words.now in
    let l = length-drop a.at a.words.now in
    c.loop-i.invariant.1 ∙ ap (paste a.words.now a.to d) (let e : c.loop-i.i ≡ a.n = omega arith in e)
    ∙ paste_written a.words.now a.to d a.n (omega arith)
