-- `convert` tests a term, converts it in a work list, and copies it to the output if it fits.
use mathlib.Core.Path.{ap}
use native.Mathlib.Omega.{arith}
use Rattle.std.proofs.Common.{length-take-le}
use Rattle.logic.specs.Answer.{answer}
use Rattle.logic.proofs.Answers.{refusal, handed_on}
use Rattle.named.proofs.Calls.{TermIn, bare_words, test_refused, test_passed, no_binder, short_output, all_written, convertible, copied}
use Rattle.named.proofs.convert.convert.Goals as goal

pub returns-in_err-term_test : goal.returns-in_err-term_test
returns-in_err-term_test c =
    test_refused c.args.edition c.args.term.now c.args.output.now _ (bare_words _ _ _ _ c.unnamed_words.ensures) _ c.term_test.ensures _ _ _
    (ap answer c.in_err-term_test.was) (handed_on _ _ c.from_residual.ensures)

pub convert_term-requires : goal.convert_term-requires
convert_term-requires c =
    let T : TermIn c.args.edition c.args.term.now =
    test_passed _ _ c.args.output.now _ (bare_words _ _ _ _ c.unnamed_words.ensures) _ c.term_test.ensures (ap answer c.in_ok-term_test.was) in
    let k = c.unnamed_words.auto.out in
    convertible T c.new.ensures (omega arith)

pub returns-in_err-convert_term : goal.returns-in_err-convert_term
returns-in_err-convert_term c =
    let T : TermIn c.args.edition c.args.term.now =
    test_passed _ _ c.args.output.now _ (bare_words _ _ _ _ c.unnamed_words.ensures) _ c.term_test.ensures (ap answer c.in_ok-term_test.was) in
    no_binder _ _ _ T _ _ _ _ c.new.ensures c.convert_term.ensures _ _ _ (ap answer c.in_err-convert_term.was)
    (handed_on _ _ c.from_residual-in_err-convert_term.ensures)

pub returns-then-output-len : goal.returns-then-output-len
returns-then-output-len c =
    let T : TermIn c.args.edition c.args.term.now =
    test_passed _ _ c.args.output.now _ (bare_words _ _ _ _ c.unnamed_words.ensures) _ c.term_test.ensures (ap answer c.in_ok-term_test.was) in
    short_output _ _ _ T _ _ _ _ c.new.ensures c.convert_term.ensures _ (ap answer c.in_ok-convert_term.was) _ c.if-output-len.true
    (ap refusal c.at-then-output-len.ensures)

pub returns : goal.returns
returns c =
    let T : TermIn c.args.edition c.args.term.now =
    test_passed _ _ c.args.output.now _ (bare_words _ _ _ _ c.unnamed_words.ensures) _ c.term_test.ensures (ap answer c.in_ok-term_test.was) in
    all_written _ _ _ T _ _ _ _ c.new.ensures c.convert_term.ensures _ (ap answer c.in_ok-convert_term.was) _ c.if-output-len.false
    (copied _ _ _ _ c.copy_from_slice.ensures.after (length-take-le _ _ (omega (arith, c.convert_term.auto.out, c.unnamed_words.auto.out))))
