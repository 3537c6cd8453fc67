-- `check_term` runs tests 6 to 12 of a term: what the tests before the derivation refuse, or the derivation's answer.
use mathlib.Core.List.{[]}
use mathlib.Core.Path.{sym, ap, ◌∙◌}
use native.Mathlib.Omega.{arith}
use Rattle.logic.specs.Answer.{answer}
use Rattle.logic.proofs.Answers.{handed_on}
use Rattle.typing.proofs.Checks.{refused_term, TermIn, term_in, ready_term, judged_term}
use Rattle.typing.proofs.check.check_term.Goals as goal

pub derive-requires : goal.derive-requires
derive-requires c =
    let p = c.requires in
    let T : TermIn c.args.most c.args.deep c.args.term.now = term_in _ _ _ (sym c.term_test.ensures ∙ ap answer c.in_ok-term_test.was) in
    record {
      Σ = p.Σ;
      Γ = [];
      term = T.term;
      ready = ready_term _ _ _ _ _ _ p.Σ T.term p.constants T.words p.nesting;
      short = omega (arith, T.words.not_more, p.words);
      below = omega arith;
      room = omega (arith, p.workspace, p.nesting);
    }

pub returns-in_err-term_test : goal.returns-in_err-term_test
returns-in_err-term_test c =
    λ Σ C. refused_term Σ c.args.most c.args.deep c.args.term.now _ (sym c.term_test.ensures ∙ ap answer c.in_err-term_test.was)
    (handed_on _ _ c.from_residual.ensures)

pub returns : goal.returns
returns c =
    let T : TermIn c.args.most c.args.deep c.args.term.now = term_in _ _ _ (sym c.term_test.ensures ∙ ap answer c.in_ok-term_test.was) in
    λ Σ C. judged_term Σ _ _ _ _ _ T _ (c.derive.ensures Σ [] T.term (ready_term _ _ _ _ _ _ Σ T.term C T.words c.requires.nesting))
