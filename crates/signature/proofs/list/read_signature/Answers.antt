-- `read_signature` reads the list, by a loop over its constants. The invariant (`ReadUpTo`): the constants up to `at`
-- are read, and what is left decides the answer. The measure is the number of words left.
use native.Mathlib.Omega.{arith}
use mathlib.Core.Bool.{true}
use mathlib.Core.Path.{◌≡◌, sym, ap, ◌∙◌}
use lib.ListN.{drop}
use Rattle.logic.proofs.Answers.{refusal}
use Rattle.signature.specs.Listing.{constant_at}
use Rattle.signature.proofs.Listings.{read_up_to_start, reading_full, reading_bad, reading_done, reading_more}
use Rattle.signature.proofs.list.read_signature.Goals as goal
use Rattle.signature.proofs.list.read_signature.Goals.{then-count-ge-MOST_CONSTANTS-via-then-count-ge-MOST_CONSTANTS}
use Rattle.signature.proofs.list.read_signature.Goals.{then-count-ge-MOST_CONSTANTS-via-else-count-ge-MOST_CONSTANTS+then-not-constant}
use Rattle.signature.proofs.list.read_signature.Goals.{Else-not-constant}

-- the next constant is good
fine : (c : Else-not-constant) → constant_at c.loop-at.invariant.Σ (drop c.loop-at.at c.args.sig.now) ≡ true
fine c = let R = c.loop-at.invariant in sym (c.constant.ensures R.Σ R.constants_are) ∙ c.if-not-constant.false

pub loop-at-init : goal.loop-at-init
loop-at-init c = read_up_to_start c.args.sig.now c.args.table.now

pub returns-then-count-ge-MOST_CONSTANTS : goal.returns-then-count-ge-MOST_CONSTANTS
returns-then-count-ge-MOST_CONSTANTS c =
    let R = c.loop-at.invariant in
    elim c.then-count-ge-MOST_CONSTANTS.branch [
      | then-count-ge-MOST_CONSTANTS-via-then-count-ge-MOST_CONSTANTS w ↦ reading_full R _ c.loop-at-test.true
          (omega (arith, w.if-count-ge-MOST_CONSTANTS.true)) (ap refusal c.at.ensures)
      | then-count-ge-MOST_CONSTANTS-via-else-count-ge-MOST_CONSTANTS+then-not-constant w ↦ reading_bad R _ c.loop-at-test.true
          (sym (w.constant.ensures R.Σ R.constants_are) ∙ w.if-not-constant.true) (ap refusal c.at.ensures)
    ]

pub loop-at-preserved : goal.loop-at-preserved
loop-at-preserved c =
    reading_more c.loop-at.invariant c.loop-at-test.true c.if-count-ge-MOST_CONSTANTS.false (c.loop-at.auto.table ∙ c.requires.entries)
    (fine (goal.at-loop-at-preserved c).Else-not-constant)

pub returns : goal.returns
returns c = reading_done c.loop-at.invariant c.loop-at-test.false
