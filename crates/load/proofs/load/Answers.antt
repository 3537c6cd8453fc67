-- `load` writes the words of the requests one behind another.
use Rattle.std.proofs.Common.{length, ap, ◌∙◌, inl, inr, arith}
use Rattle.logic.proofs.Answers.{refusal}
use Rattle.load.proofs.Draws.{greater_is}
use Rattle.load.proofs.Writes.{none_written, out_of_range, load_too_short, loading_starts, loading_turn, loading_ends}
use Rattle.load.proofs.load.Goals as goal

pub returns-then-count-lt1 : goal.returns-then-count-lt1
returns-then-count-lt1 c =
    none_written c.args.output.now _ (out_of_range c.args.seed c.args.count (length c.args.output.now)
    (elim c.then-count-lt1.branch [
      | goal.then-count-lt1-via-then-count-lt1 w ↦ inl w.if-count-lt1.true
      | goal.then-count-lt1-via-else-count-lt1+then-count-gt-MOST_REQUESTS w ↦ inr w.if-count-gt-MOST_REQUESTS.true
    ])) (ap refusal c.at.ensures)

pub returns-then-output-words : goal.returns-then-output-words
returns-then-output-words c =
    none_written c.args.output.now _ (load_too_short c.args.seed c.args.count (length c.args.output.now) (omega arith) (omega arith) (omega arith))
    (ap refusal c.at-then-output-words.ensures)

pub loop-i-init : goal.loop-i-init
loop-i-init c = loading_starts c.args.seed c.args.count c.args.output.now

pub loop-i-preserved : goal.loop-i-preserved
loop-i-preserved c =
    let l = c.loop-i in
    loading_turn c.args.seed c.args.count c.args.output.now l.output l.state l.i (omega arith) l.invariant
    _ _ _ _ _ (omega arith) c.next_state-first.ensures c.next_state-second.ensures c.next_state-state.ensures
    (c.max-principal.ensures ∙ greater_is _) c.write_request.ensures

pub returns : goal.returns
returns c =
    let l = c.loop-i in
    loading_ends c.args.seed c.args.count c.args.output.now l.output l.state l.i (omega arith) l.invariant (omega arith) (omega arith) (omega arith)
