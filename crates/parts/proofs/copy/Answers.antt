-- `copy` copies words from a list into another, by a loop. The invariant: the first `i` of them are pasted.
use Prim.Native.Nat.{ℕ}
use mathlib.Core.List.{List}
use mathlib.Core.Path.{◌≡◌, refl, ap, ◌∙◌}
use native.Mathlib.Omega.{arith}
use lib.Seq.{paste, paste-zero}
use lib.ListN.{drop, length-drop, length-set}
use Rattle.words.proofs.Lists.{copy_turn, paste_written}
use Rattle.parts.proofs.copy.Goals as goal

pub loop-i-init : goal.loop-i-init
loop-i-init c =
    let a = c.args in
    (omega arith, paste-zero a.out.now a.to (drop a.at a.src.now), refl)

pub loop-i-preserved : goal.loop-i-preserved
loop-i-preserved c =
    let a = c.args in (
      omega arith,
      copy_turn a.out.now c.loop-i.out a.src.now a.to a.at c.loop-i.i c.loop-i.invariant.1 (omega arith) (omega arith),
      simp
          length-set c.loop-i.invariant.2,
    )

pub returns : goal.returns
returns c =
    let a = c.args in
    let d : List ℕ = drop a.at a.src.now in
    let l = length-drop a.at a.src.now in
    c.loop-i.invariant.1 ∙ ap (paste a.out.now a.to d) (let e : c.loop-i.i ≡ a.n = omega arith in e)
    ∙ paste_written a.out.now a.to d a.n (omega arith)
