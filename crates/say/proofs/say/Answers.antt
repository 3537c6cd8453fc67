-- Nothing is written before the last test has passed.
use mathlib.Core.Path.{sym, ap, ◌∙◌}
use Rattle.records.specs.Entries.{stated}
use Rattle.shared_tests.specs.Shared.{lent_by}
use Rattle.logic.specs.Result.{ok}
use Rattle.say.specs.Said.{adds, said_answer}
use Rattle.say.proofs.Statements.{say_room, held_room}
use Rattle.say.proofs.say.Goals as goal

pub add_statement-requires : goal.add_statement-requires
add_statement-requires c =
    say_room (lent_by c.args.signature c.args.ws.now) c.args.register.now c.args.day (stated c.args.statement)
    (sym c.sayable.ensures ∙ ap said_answer c.in_ok-said.was ∙ ap (λ s. ok (adds s)) c.in-Added.is)

pub set_latest-requires : goal.set_latest-requires
set_latest-requires c =
    held_room (lent_by c.args.signature c.args.ws.now) c.args.register.now c.args.day (stated c.args.statement)
    (sym c.sayable.ensures ∙ ap said_answer c.in_ok-said.was ∙ ap (λ s. ok (adds s)) c.in-Held.is)
