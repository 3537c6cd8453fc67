-- Behind the tests the words are one term, there is room for it, and its numbers and the amount are not too big. How
-- many words were written is then within `out`.
use mir.Val.{to_z, of_z}
use mir.Syntax.{w32}
use native.Mathlib.Omega.{arith}
use Rattle.io.proofs.Counting.{prefix_len_of_le}
use Rattle.words_run.proofs.Tested.{one_read, near}
use Rattle.words_run.proofs.shifted.Goals as goal

pub shift_into-requires : goal.shift_into-requires
shift_into-requires c =
    let h = one_read c.args.words.now _ c.read_whole.ensures c.ok.ensures.value c.in_ok-n.was in
    record {
      term = h.term;
      whole = h.is;
      fits = omega (arith, h.words);
      deep = omega (arith, h.words);
      near = near (to_z w32 (of_z w32 c.args.amount)) c.if-amount.false c.if-amount-gt-FAR.false;
    }

pub returns : goal.returns
returns c =
    let h = one_read c.args.words.now _ c.read_whole.ensures c.ok.ensures.value c.in_ok-n.was in
    let n = (c.shift_into.ensures h.term h.is).words_are in
    let k = c.shift_into.auto.out in
    prefix_len_of_le _ _ (omega (arith, h.count))
