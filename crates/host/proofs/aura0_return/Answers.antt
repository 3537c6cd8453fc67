-- Return, and its answer as one number.
use mathlib.Core.Path.{◌∙◌}
use Rattle.register.specs.Marks.{return_call}
use Rattle.host.proofs.Codes.{told_code}
use Rattle.host.proofs.aura0_return.Goals as goal

pub returns : goal.returns
returns c =
    let e = c.return_to.ensures in
    record {
      answer = c.answer.ensures ∙ told_code (return_call c.args.register.now c.args.marks.now c.args.number) _ e.answer;
      register = e.register;
      marks = e.marks;
    }
