-- Read, and its answer as one number, with where the body stands.
use mathlib.Core.Path.{sym, ap, ◌∙◌}
use native.Mathlib.Omega.{arith}
use Rattle.register.specs.Calls.{kind_of, body_of}
use Rattle.read_call.specs.Read.{read_answer}
use Rattle.read_call.proofs.ReadAnswers.{one_less}
use Rattle.host.proofs.Starts.{not_read, present, start_fits, read_to}
use Rattle.host.proofs.aura0_read.Goals as goal

pub place-requires : goal.place-requires
place-requires c = one_less (present c.args.register.now c.args.«record» (sym c.read.ensures ∙ ap read_answer c.in-Ok.is)).among

pub overflow_add-start : goal.overflow_add-start
overflow_add-start c =
    let P = present c.args.register.now c.args.«record» (sym c.read.ensures ∙ ap read_answer c.in-Ok.is) in
    omega (arith, c.well_formed, start_fits c.args.register.now c.args.«record» P c.place.result c.place.ensures)

pub returns-in-Ok : goal.returns-in-Ok
unfolding kind_of body_of
returns-in-Ok c =
    let e = sym c.read.ensures ∙ ap read_answer c.in-Ok.is in
    let P = present c.args.register.now c.args.«record» e in
    read_to c.args.register.now c.args.«record» P c.place.result c.place.ensures _ c.in-Ok.found.body.now
    (c.from.ensures ∙ sym (ap kind_of e)) (sym (ap body_of e))

pub returns-in-Err : goal.returns-in-Err
returns-in-Err c = not_read c.args.register.now c.args.«record» (sym c.read.ensures ∙ ap read_answer c.in-Err.is) _ c.code.ensures
