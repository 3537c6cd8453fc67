-- `equal_words` compares two lists that are equally long, by a loop. The invariant: they are equal below `i`.
use Prim.Native.Nat.{ℕ}
use mathlib.Core.List.{List}
use mathlib.Core.Path.{refl, ap}
use native.Mathlib.Omega.{arith}
use lib.Seq.{ext_get_or}
use lib.ListN.{get_or}
use borrow.Author.Count.{below_more}
use Rattle.logic.proofs.Basics.{clash}
use Rattle.parts.proofs.equal_words.Goals as goal

pub returns-then-a-i : goal.returns-then-a-i
returns-then-a-i c =
    let i = c.loop-i.i in
    (λ e. absurd (clash (cc)), λ e. absurd (c.if-a-i.true (ap (λ (l : List ℕ). get_or l i 0) e)))

pub loop-i-preserved : goal.loop-i-preserved
loop-i-preserved c = (omega arith, below_more _ _ c.loop-i.invariant.1 c.if-a-i.false)

pub returns : goal.returns
returns c = (λ e. ext_get_or 0 _ _ c.requires (λ k h. c.loop-i.invariant.1 k (omega arith)), λ e. refl)
