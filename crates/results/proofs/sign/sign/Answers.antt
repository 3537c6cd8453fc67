-- `sign` gives a Sign's type: the proposition's type is not P, or the type is too long, or its words are written at the
-- front.
use native.Mathlib.Omega.{arith}
use mathlib.Core.Path.{refl, ap}
use lib.ListN.{length-set}
use Rattle.logic.specs.Term.{propA}
use Rattle.logic.proofs.Answers.{refusal}
use Rattle.results.proofs.Results.{sign_long, sign_done, sign_sizes}
use Rattle.results.proofs.sign.sign.Goals as goal

pub overflow_add-words : goal.overflow_add-words
overflow_add-words c = let s = sign_sizes c.requires in omega arith

pub returns-then-words-gt-MOST_TYPE_WORDS : goal.returns-then-words-gt-MOST_TYPE_WORDS
returns-then-words-gt-MOST_TYPE_WORDS c =
    λ a q s j. sign_long j (c.front_is.ensures s propA j.type refl tt) c.if-not-front_is.false (omega (arith, c.if-words-gt-MOST_TYPE_WORDS.true))
    (ap refusal c.at-then-words-gt-MOST_TYPE_WORDS.ensures)

pub offset_bounds-proof-at : goal.offset_bounds-proof-at
offset_bounds-proof-at c = let s = sign_sizes c.requires in omega arith

pub bounds-proof-at : goal.bounds-proof-at
bounds-proof-at c = let s = sign_sizes c.requires in omega arith

pub overflow_add-at : goal.overflow_add-at
overflow_add-at c = let s = sign_sizes c.requires in omega arith

pub overflow_sub-words-2 : goal.overflow_sub-words-2
overflow_sub-words-2 c = let s = sign_sizes c.requires in omega arith

pub copy-requires : goal.copy-requires
copy-requires c =
    let s = sign_sizes c.requires in
    let w = c.if-words-gt-MOST_TYPE_WORDS.false in
    (omega arith, simp length-set (omega (arith, s, w)))

pub returns : goal.returns
returns c =
    λ a q s j. sign_done j (c.front_is.ensures s propA j.type refl tt) c.if-not-front_is.false c.payload_of.ensures c.if-words-gt-MOST_TYPE_WORDS.false
    (omega (arith, c.requires.room)) c.copy.ensures
