-- `meaning` looks a variable up among the names in scope: a name, or the place that a count gives.
use Rattle.std.proofs.Common.{sym, ap, ◌∙◌}
use Rattle.editions.specs.Convert.{meaning}
use Rattle.editions.specs.declared.Edition.TheVariants.{Counts}
use Rattle.named.specs.Answers.{in_scope, meant}
use Rattle.named.proofs.Scopes.{name_at}
use Rattle.named.proofs.scope.Scope.meaning.Goals as goal

pub returns-in-Counts : goal.returns-in-Counts
returns-in-Counts c =
    let g = c.get.ensures.lookup in
    ap meant c.copied.ensures ∙ name_at c.nearest_first.result.now c.args.variable c.get.result g.1 g.3
    ∙ ap (meaning Counts c.args.variable) c.nearest_first.ensures ∙ sym (ap (λ e. meaning e c.args.variable (in_scope c.args.self.now)) c.in-Counts.is)
