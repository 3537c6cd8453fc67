-- The type's words are looked up, shifted into the buffer, and copied from there to the front of the workspace.
use Prim.Native.Nat.{ℕ, suc}
use native.Mathlib.Omega.{arith}
use native.Mathlib.Numerals.{add-one}
use mathlib.Core.Path.{◌≡◌, ap, subst, sym, ◌∙◌}
use mathlib.Core.List.{List}
use lib.IntN.{pos, ◌+ℤ◌}
use mir.Syntax.{w32}
use mir.Val.{to_z, of_z}
use Rattle.words.specs.Place.{Is}
use Rattle.words.proofs.Places.{size_is}
use Rattle.rules.proofs.Variables.{amount_is, raised_front}
use Rattle.rules.proofs.scope.raised.Goals as goal

-- ---- the needs
pub returns : goal.returns
returns c =
    let amount : to_z w32 (of_z w32 (to_z w32 c.args.n +ℤ pos 1)) ≡ pos (suc c.args.n) = amount_is c.args.n 1 c.requires.number (omega arith) ∙ ap
    pos (add-one c.args.n) in
    λ A i h. raised_front c.args.at A (let p = c.requires in
    let a = size_is _ A i in
    let b = size_is _ p.type p.part in
    omega (arith, p.type_words, p.small)) amount (subst (λ (x : List ℕ). Is x A) (sym c.lookup-part.ensures) i) c.shift_into-raised.ensures c.copy.ensures h
