-- `atom` gives an atom's type: a constant's by `constant`, any other's is an atom, which is written at the front.
use mathlib.Core.Path.{ap, ◌∙◌}
use native.Mathlib.Omega.{arith}
use Prim.Native.Nat.{ℕ}
use Rattle.logic.specs.Term.{tag_of}
use Rattle.rules.proofs.Atoms.{sort_known, sorted}
use Rattle.rules.proofs.atom.atom.Goals as goal

pub returns : goal.returns
returns c =
    λ Σ a d e p. let b = sort_known c.args.word a p e (λ q. c.if-tag-eq-TAG_CONSTANT.false (c.tag_of-tag.ensures ∙ q)) in
    sorted Σ c.args.at c.sort.result c.args.ws.now a b.0 (omega (arith, c.requires.room)) b.1
    (c.sort.ensures a b.0 p (c.tag_of-tag.ensures ∙ ap (λ (w : ℕ). tag_of w) e) b.1)
