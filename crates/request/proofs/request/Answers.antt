-- Nothing is written before the last test has passed.
use mathlib.Core.Path.{sym, ap, ◌∙◌}
use native.Mathlib.Omega.{arith}
use Rattle.logic.specs.Answer.{answer}
use Rattle.records.specs.Entries.{asked}
use Rattle.shared_tests.specs.Shared.{lent_by}
use Rattle.request.proofs.Grants.{grantable_now, grant_room}
use Rattle.request.proofs.request.Goals as goal

pub add_grant-requires : goal.add_grant-requires
add_grant-requires c =
    let e = sym c.grantable.ensures ∙ ap answer c.in_ok-grantable.was in
    let G = grantable_now (lent_by c.args.signature c.args.ws.now) c.args.register.now (asked c.args.ask) e in (
      omega (arith, G.operation, G.proof.ready.not_more),
      G.extract,
      G.delivery,
      grant_room (lent_by c.args.signature c.args.ws.now) c.args.register.now (asked c.args.ask) e,
    )
