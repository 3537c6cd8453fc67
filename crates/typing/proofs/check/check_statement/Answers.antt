-- `check_statement` runs tests 6 to 12 of a proposition as a Sign: what `check_term` refuses, then the test of P and
-- the length of the type that the Sign would have.
use mathlib.Core.Path.{refl, sym, ap, ◌∙◌}
use native.Mathlib.Omega.{arith}
use Rattle.logic.specs.Answer.{answer}
use Rattle.logic.specs.Term.{propA}
use Rattle.logic.proofs.Answers.{refusal}
use Rattle.typing.proofs.Statements.{statement_typed, long_statement, short_statement}
use Rattle.typing.proofs.check.check_statement.Goals as goal

pub returns-then-proposition-gt-MOST_TYPE_WORDS : goal.returns-then-proposition-gt-MOST_TYPE_WORDS
returns-then-proposition-gt-MOST_TYPE_WORDS c = λ Σ a C.
    let S = statement_typed Σ a c.args.proposition.now (c.check_term.ensures Σ C) _ (ap answer c.in_ok-check_term.was) in
    ap refusal c.at-then-proposition-gt-MOST_TYPE_WORDS.ensures
    ∙ long_statement Σ a S (sym c.if-not-front_is.false ∙ c.front_is.ensures S.A propA S.type refl tt)
    (omega (arith, c.if-proposition-gt-MOST_TYPE_WORDS.true))

pub returns : goal.returns
returns c = λ Σ a C.
    let S = statement_typed Σ a c.args.proposition.now (c.check_term.ensures Σ C) _ (ap answer c.in_ok-check_term.was) in
    short_statement Σ a S (sym c.if-not-front_is.false ∙ c.front_is.ensures S.A propA S.type refl tt) c.if-proposition-gt-MOST_TYPE_WORDS.false
