-- Open, and its answer as one number.
use mathlib.Core.Path.{◌∙◌}
use native.Mathlib.Omega.{arith}
use Rattle.register.specs.Calls.{open_call}
use Rattle.shared_tests.specs.Shared.{lent_of}
use Rattle.host.proofs.Codes.{told_fits, told_code, open_fits}
use Rattle.host.proofs.aura0_open.Goals as goal

pub answer-requires : goal.answer-requires
answer-requires c =
    let l = lent_of c.args.signature.now c.args.n c.args.workspace.now in
    told_fits (open_call l c.args.register.now c.args.mode c.args.rules.now) _ c.open.ensures.answer
    (λ m p. open_fits l c.args.register.now c.args.mode c.args.rules.now m p (omega (arith, c.well_formed)))

pub returns : goal.returns
returns c =
    let e = c.open.ensures in
    record {
      answer = c.answer.ensures ∙ told_code (open_call (lent_of c.args.signature.now c.args.n c.args.workspace.now)
          c.args.register.now c.args.mode c.args.rules.now) _ e.answer;
      register = e.register;
      marks = e.marks;
    }
