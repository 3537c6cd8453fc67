-- `lookup` gives a part of one of two lists, by the flag.
use native.Mathlib.Omega.{arith}
use Rattle.parts.proofs.lookup.lookup.Goals as goal

pub offset_bounds-held-start : goal.offset_bounds-held-start
offset_bounds-held-start c = let h = rw c.if-in_held.true at c.requires.1 in omega arith

pub slice_bounds-result-end : goal.slice_bounds-result-end
slice_bounds-result-end c = let h = rw c.if-in_held.true at c.requires.1 in omega arith

pub offset_bounds-proof-start : goal.offset_bounds-proof-start
offset_bounds-proof-start c = let h = rw c.if-in_held.false at c.requires.1 in omega arith

pub slice_bounds-result-end-else-in_held : goal.slice_bounds-result-end-else-in_held
slice_bounds-result-end-else-in_held c = let h = rw c.if-in_held.false at c.requires.1 in omega arith

pub returns-then-in_held : goal.returns-then-in_held
returns-then-in_held c = rw c.if-in_held.true

pub returns-else-in_held : goal.returns-else-in_held
returns-else-in_held c = rw c.if-in_held.false
