-- Whether a body does not use its binder: the counts of two shifts by 0, from 0 on and from 1 on, are the same.
use Prim.Native.Nat.{ℕ, ◌+◌, ◌-◌}
use mathlib.Core.Path.{◌≡◌}
use mathlib.Core.List.{List}
use native.Mathlib.Omega.{arith}
use lib.ListN.{take, drop}
use Rattle.logic.specs.Term.{Term, size}
use Rattle.words.specs.Place.{At, Is}
use Rattle.words.proofs.Places.{at_end, part_is, size_is}
use Rattle.steps.proofs.Redexes.{same_counts}
use Rattle.steps.proofs.redex.unused.Goals as goal

-- the part that is copied is the body
body_is : {ws : List ℕ} {at : ℕ} {b : Term} (end : ℕ) → At ws at b → end ≡ at + size b → Is (take (end - at) (drop at ws)) b
body_is end h e = record { plain = h.plain; words = part_is end h e }

-- ---- the needs

pub offset_bounds-words-at : goal.offset_bounds-words-at
offset_bounds-words-at c = let p = c.requires in let e = c.skip.ensures p.term p.here in let l = at_end p.here in omega arith

pub slice_bounds-body-end : goal.slice_bounds-body-end
slice_bounds-body-end c = let p = c.requires in let e = c.skip.ensures p.term p.here in let l = at_end p.here in omega arith

pub shift_into-from_0-requires : goal.shift_into-from_0-requires
shift_into-from_0-requires c =
    let p = c.requires in
    let b = body_is _ p.here (c.skip.ensures p.term p.here) in
    let z = size_is _ _ b in
    record { term = p.term; whole = b; fits = omega (arith, p.room); deep = omega (arith, p.few); near = omega arith }

pub shift_into-from_1-requires : goal.shift_into-from_1-requires
shift_into-from_1-requires c =
    let p = c.requires in
    let b = body_is _ p.here (c.skip.ensures p.term p.here) in
    let z = size_is _ _ b in
    record { term = p.term; whole = b; fits = omega (arith, p.room, c.shift_into-from_0.auto); deep = omega (arith, p.few); near = omega arith }

pub returns : goal.returns
returns c =
    λ b h.
    let i = body_is _ h (c.skip.ensures b h) in
    same_counts b _ _ (c.shift_into-from_0.ensures b i).free_is (c.shift_into-from_1.ensures b i).free_is
