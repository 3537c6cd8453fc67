-- Mark, and its answer as one number.
use mathlib.Core.Path.{◌∙◌}
use Rattle.register.specs.Marks.{mark_call}
use Rattle.host.proofs.Codes.{told_code}
use Rattle.host.proofs.aura0_mark.Goals as goal

pub returns : goal.returns
returns c =
    let e = c.mark.ensures in
    record { answer = c.answer.ensures ∙ told_code (mark_call c.args.register.now c.args.marks.now c.args.number) _ e.answer; marks = e.marks }
