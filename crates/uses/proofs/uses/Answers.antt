-- `uses` tests a term and counts by a shift by 0 in a work list, or answers 0 where no variable has such a number.
use native.Mathlib.Omega.{arith}
use Rattle.std.proofs.Common.{ap, ◌∙◌}
use Rattle.logic.specs.Answer.{answer}
use Rattle.logic.proofs.Answers.{handed_on}
use Rattle.uses.proofs.Steps.{Tested, term_refused, term_passed, counts_none, counts_free}
use Rattle.uses.proofs.uses.Goals as goal

pub returns-in_err-term_test : goal.returns-in_err-term_test
returns-in_err-term_test c =
    handed_on _ _ c.from_residual.ensures ∙ term_refused c.args.from c.args.term.now _ c.term_test.ensures _ _ (ap answer c.in_err-term_test.was)

pub returns-then-from-ge-PAYLOADS : goal.returns-then-from-ge-PAYLOADS
returns-then-from-ge-PAYLOADS c =
    let passed : Tested c.args.term.now = term_passed c.args.from _ _ c.term_test.ensures (ap answer c.in_ok-term_test.was) in
    counts_none _ _ passed c.if-from-ge-PAYLOADS.true

pub shift_into-requires : goal.shift_into-requires
shift_into-requires c =
    let passed : Tested c.args.term.now = term_passed c.args.from _ _ c.term_test.ensures (ap answer c.in_ok-term_test.was) in
    record {
      term = passed.term;
      whole = passed.is;
      fits = omega (arith, passed.short);
      deep = omega (arith, passed.short, c.if-from-ge-PAYLOADS.false);
      near = omega arith;
    }

pub returns : goal.returns
returns c =
    let passed : Tested c.args.term.now = term_passed c.args.from _ _ c.term_test.ensures (ap answer c.in_ok-term_test.was) in
    counts_free _ _ passed c.shift_into.result c.shift_into.ensures
