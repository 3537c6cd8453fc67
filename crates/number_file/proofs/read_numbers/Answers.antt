-- The numbers so far stand at the front of the words, and what is left is read behind the number so far. Each number
-- took two bytes at least, so there is room for it.
use Rattle.std.proofs.Common.{◌+◌, ◌*◌, ◌≤◌, sym, ap, ◌∙◌}
use native.Mathlib.Omega.{arith}
use lib.ListN.{length-set}
use Rattle.logic.specs.Refusals.{out_of_form}
use Rattle.logic.specs.Answer.{found}
use Rattle.number_file.proofs.Reader.{no_number, number_ends, wrong_byte, digit_read, number_open, line_open, read_to_end, is_none}
use Rattle.number_file.proofs.read_numbers.Goals as goal
use Rattle.number_file.proofs.read_numbers.Goals.{then-byte-this+in_ok-words, else-byte-this+in_ok-push}
use Rattle.number_file.proofs.read_numbers.Goals.{then-is_some-via-then-is_some, then-is_some-via-else-is_some+then-other-ne-FEED}

pub returns-in_err-words : goal.returns-in_err-words
returns-in_err-words c =
    rw c.from_residual.ensures (no_number c.loop-byte.invariant.reading (omega arith) c.if-byte-this.true (sym c.take.ensures.value ∙ c.in_err-words.was))

pub returns-in_err-push : goal.returns-in_err-push
returns-in_err-push c =
    rw c.from_residual-in_err-push.ensures (wrong_byte c.loop-byte.invariant.reading (omega arith) c.if-byte-this.false
    (sym c.push.ensures ∙ ap (found out_of_form 0) c.in_err-push.was))

pub loop-byte-preserved : goal.loop-byte-preserved
loop-byte-preserved c =
    let i = c.loop-byte.invariant in
    elim c.if-byte-this.branch [
      | then-byte-this+in_ok-words w ↦
          let q = sym w.take.ensures.value ∙ w.in_ok-words.was in
          let b : 2 * c.loop-byte.count + 1 ≤ c.loop-byte.byte-index = rw q at i.begun in
          simp (
            w.words-is,
            w.this-is,
            w.other-is,
            w.so_far-is,
            w.count-is,
            w.swap.ensures.x_after,
            w.swap.ensures.y_after,
            w.take.ensures.after,
          ) (record {
            room = omega arith;
            begun = tt;
            size = simp length-set i.size;
            reading = number_ends i.reading (omega arith) _ w.if-byte-this.true q (omega arith);
          })
      | else-byte-this+in_ok-push w ↦ simp (w.words-is, w.this-is, w.other-is, w.so_far-is, w.count-is) (record {
        room = omega arith;
        begun = omega arith;
        size = i.size;
        reading = digit_read i.reading (omega arith) w.if-byte-this.false _ (sym w.push.ensures ∙ ap (found out_of_form 0) w.in_ok-push.was);
      })
    ]

pub returns-then-is_some : goal.returns-then-is_some
returns-then-is_some c =
    let r = c.loop-byte.invariant.reading in
    elim c.then-is_some.branch [
      | then-is_some-via-then-is_some w ↦ number_open r (omega arith) (sym c.is_some.ensures ∙ w.if-is_some.true)
      | then-is_some-via-else-is_some+then-other-ne-FEED w ↦
          line_open r (omega arith) w.if-other-ne-FEED.true (is_none (sym c.is_some.ensures ∙ w.if-is_some.false))
    ]

pub returns : goal.returns
returns c = read_to_end c.loop-byte.invariant.reading (omega arith) c.if-other-ne-FEED.false (is_none (sym c.is_some.ensures ∙ c.if-is_some.false))
