-- `term_test` runs tests 6 to 8: a return for each test that refuses, and one where all pass.
use mathlib.Core.Path.{sym, ap, ◌∙◌}
use Rattle.logic.specs.Answer.{answer}
use Rattle.logic.specs.Result.{without_value}
use Rattle.logic.proofs.Answers.{handed_on}
use Rattle.words.proofs.Places.{is_at}
use Rattle.words.proofs.Terms.{deep_term, good_term, TermIn, term_in}
use Rattle.words.proofs.term.term_test.Goals as goal

pub nested_whole-requires : goal.nested_whole-requires
nested_whole-requires c =
    let T : TermIn c.args.words.now = term_in _ _ (sym c.read_whole.ensures ∙ ap answer c.in_ok-read_whole.was) in
    record { term = T.term; here = is_at T.is }

pub returns-in_err-nested_whole : goal.returns-in_err-nested_whole
returns-in_err-nested_whole c =
    let T : TermIn c.args.words.now = term_in _ _ (sym c.read_whole.ensures ∙ ap answer c.in_ok-read_whole.was) in
    handed_on _ _ c.from_residual-in_err-nested_whole.ensures
    ∙ sym (ap without_value (deep_term c.args.most c.args.deep c.args.words.now c.if-len-lt1.false c.if-most-len.false T.term T.read
    _ _ (sym (c.nested_whole.ensures T.term T.is) ∙ ap answer c.in_err-nested_whole.was)))

pub returns : goal.returns
returns c =
    let T : TermIn c.args.words.now = term_in _ _ (sym c.read_whole.ensures ∙ ap answer c.in_ok-read_whole.was) in
    sym (ap without_value (good_term c.args.most c.args.deep c.args.words.now c.if-len-lt1.false c.if-most-len.false T.term T.read
    _ (sym (c.nested_whole.ensures T.term T.is) ∙ ap answer c.in_ok-nested_whole.was)))
