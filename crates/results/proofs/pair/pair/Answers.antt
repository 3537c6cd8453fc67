-- `pair` gives the type of a Lam or a Ret: the second type is no proposition, or the words are too many, or they are
-- written at the front, the second type's by way of the words behind.
use native.Mathlib.Omega.{arith}
use mathlib.Core.Path.{ap}
use lib.ListN.{length-set}
use Rattle.logic.proofs.Answers.{refusal}
use Rattle.results.proofs.Results.{pair_long, pair_done, pair_sizes}
use Rattle.results.proofs.pair.pair.Goals as goal

pub overflow_add-before : goal.overflow_add-before
overflow_add-before c = let s = pair_sizes c.requires in omega arith

pub returns-then-before-m-gt-MOST_TYPE_WORDS : goal.returns-then-before-m-gt-MOST_TYPE_WORDS
returns-then-before-m-gt-MOST_TYPE_WORDS c =
    λ o a B h j. pair_long c.args.end o j (c.proposition.ensures B j.type) c.if-not-proposition.false (omega (arith, c.if-before-m-gt-MOST_TYPE_WORDS.true))
    (ap refusal c.at-then-before-m-gt-MOST_TYPE_WORDS.ensures)

pub copy-requires : goal.copy-requires
copy-requires c =
    let s = pair_sizes c.requires in
    let l = c.if-before-m-gt-MOST_TYPE_WORDS.false in
    let k = c.copy_within.auto.words in
    (omega (arith, s), simp length-set (omega (arith, s, l, k)))

pub returns : goal.returns
returns c =
    λ o a B h j. pair_done c.args.end o j (c.proposition.ensures B j.type) c.if-not-proposition.false h c.if-before-m-gt-MOST_TYPE_WORDS.false c.requires.room
    c.copy_within.auto.words c.copy_within.ensures c.copy.ensures c.copy_within-2.ensures
