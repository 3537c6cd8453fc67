-- `constant` gives a constant's type: there is none, or it is too long, or its words are copied from the signature.
use native.Mathlib.Omega.{arith}
use mathlib.Core.Path.{ap}
use Rattle.logic.proofs.Answers.{refusal}
use Rattle.words.proofs.Places.{at_end}
use Rattle.rules.proofs.Atoms.{constant_placed, constant_unknown, constant_long, constant_copied}
use Rattle.rules.proofs.atom.constant.Goals as goal

pub overflow_sub-words : goal.overflow_sub-words
overflow_sub-words c = let here = constant_placed c.args.n c.if-table-n.false c.requires.declared in omega (arith, here.behind)

pub bounds-sig-start : goal.bounds-sig-start
bounds-sig-start c = let here = constant_placed c.args.n c.if-table-n.false c.requires.declared in omega (arith, here.behind, at_end here.here)

pub copy-requires : goal.copy-requires
copy-requires c =
    let here = constant_placed c.args.n c.if-table-n.false c.requires.declared in
    omega (arith, here.words, at_end here.here, c.requires.room, c.if-words-gt-MOST_TYPE_WORDS.false)

pub returns-then-table-n : goal.returns-then-table-n
returns-then-table-n c = λ Σ d. constant_unknown c.args.ws.now c.args.n c.args.at c.if-table-n.true (ap refusal c.at.ensures) d

pub returns-then-words-gt-MOST_TYPE_WORDS : goal.returns-then-words-gt-MOST_TYPE_WORDS
returns-then-words-gt-MOST_TYPE_WORDS c =
    λ Σ d. constant_long c.args.ws.now c.args.at (constant_placed c.args.n c.if-table-n.false d) c.if-words-gt-MOST_TYPE_WORDS.true
    (ap refusal c.at-then-words-gt-MOST_TYPE_WORDS.ensures)

pub returns : goal.returns
returns c =
    λ Σ d. constant_copied c.args.ws.now c.args.at (constant_placed c.args.n c.if-table-n.false d) c.if-words-gt-MOST_TYPE_WORDS.false c.copy.ensures
