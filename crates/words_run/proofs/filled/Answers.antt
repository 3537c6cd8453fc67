-- Behind the tests body and filler are one term each, and not too long. Where there was room, how many words were
-- written is within `out`.
use native.Mathlib.Omega.{arith}
use Rattle.io.proofs.Counting.{prefix_len_of_le}
use Rattle.logic.specs.Move.{fill_at}
use Rattle.words.proofs.Places.{is_at}
use Rattle.moves.proofs.Fills.{done_is}
use Rattle.words_run.proofs.Tested.{one_read}
use Rattle.words_run.proofs.filled.Goals as goal

pub fill_into-requires : goal.fill_into-requires
fill_into-requires c =
    let b = one_read c.args.body.now _ c.read_whole.ensures c.ok.ensures.value c.in_ok-n.was in
    let f = one_read c.args.filler.now _ c.read_whole-2.ensures c.ok-2.ensures.value c.in_ok-m.was in (
      omega arith,
      record { term = b.term; here = is_at b.is; deep = omega (arith, b.count); filler = f.term; lends = f.is; short = omega (arith, f.words) },
    )

pub returns : goal.returns
returns c =
    let b = one_read c.args.body.now _ c.read_whole.ensures c.ok.ensures.value c.in_ok-n.was in
    let f = one_read c.args.filler.now _ c.read_whole-2.ensures c.ok-2.ensures.value c.in_ok-m.was in
    let answer = (c.fill_into.ensures b.term f.term (is_at b.is) f.is).answer in
    let was = done_is b.term (fill_at 0 f.term b.term) 0 0 _ answer _ c.in_ok-done.was in
    let k = c.fill_into.auto.out in
    prefix_len_of_le _ _ (omega (arith, was.fits))
