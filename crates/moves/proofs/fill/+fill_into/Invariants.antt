-- Filling, by recursion on a node's first child and a loop over second children, each filled in its node's place. The
-- invariant (`Going`): what is answered and written of the term at `start`, from here, is so of the term at `at`, from
-- the beginning. The measure of both is the number of words from the term's place to the end of the list.
use Prim.Native.Nat.{ℕ, ◌-◌, ◌≤◌}
use mathlib.Core.Path.{◌≡◌}
use mathlib.Core.List.{List}
use Rattle.std.specs.Prelude.{Option}
use lib.ListN.{length}
use Rattle.moves.specs.Fill.{Fillable}
use Rattle.moves.specs.declared.fill.Filled.{Filled}
use Rattle.moves.proofs.Fills.{Fills}
use Rattle.moves.proofs.fill.+fill_into.Given as goal

pub record Going (src : List ℕ) (at c : ℕ) (filler out₀ : List ℕ) (to : ℕ) (out : List ℕ) (start depth place : ℕ) : Type 0 where
  pub ahead : at ≤ start
  pub room : place ≤ length out
  pub kept : length out ≡ length out₀
  pub here : Fillable src start depth filler
  pub whole : (new : List ℕ) (r : Option Filled) → Fills src start depth filler out place new r → Fills src at c filler out₀ to new r

abbrev pub invariant-loop-out : goal.invariant-loop-out
invariant-loop-out l = Going l.src l.at l.c l.filler l.initial.out l.to l.out l.start l.depth l.place

abbrev pub decreases-loop-out : goal.decreases-loop-out
decreases-loop-out l = length l.src - l.start

abbrev pub decreases-fill_into : goal.decreases-fill_into
decreases-fill_into l = length l.src.now - l.at
