-- `nearest` gives the place of the first name that is the one sought.
use Rattle.std.proofs.Common.{rules, ◌≡◌, ap, ◌∙◌, ◌==◌}
use Rattle.std.specs.List.{position}
use Rattle.std.proofs.lemmas.Iterator.{YieldsList-from_slice}
use Rattle.std.proofs.lemmas.Iterator.Search.{position_from_yields_List}
use borrow.Author.Tests.{tests}
use Rattle.named.specs.Answers.{in_scope, meant}
use Rattle.named.proofs.Scopes.{nearest_is}
use Rattle.named.proofs.scope.Scope.nearest.Goals as goal

pub returns : goal.returns
returns c =
    let s = in_scope c.args.self.now in
    let p : c.position.result ≡ position (λ n. n == c.args.name) s =
    position_from_yields_List (λ n. n == c.args.name) _ _ c.position.result c.position.ensures.ran
    (YieldsList-from_slice s (c.iter.ensures.rest ∙ c.nearest_first.ensures)) (λ x b q k. search (rules, tests)) in
    let m : c.map.result ≡ c.position.result = search rules in
    ap meant (m ∙ p) ∙ nearest_is c.args.name s
