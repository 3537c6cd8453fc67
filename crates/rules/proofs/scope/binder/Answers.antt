-- `binder` searches the entry of variable n, by a loop over entries. The invariant (`BinderFound`): from `kept` on,
-- the words kept are the entries of the binders behind the first n - left. The measure is `kept`.
use Rattle.rules.proofs.Scopes.{EntryStep, entry_step, passed_one, passed_all}
use Prim.Native.Nat.{◌-◌}
use Rattle.rules.specs.Variable.{BinderFound}
use native.Mathlib.Omega.{arith}
use Rattle.rules.proofs.scope.binder.Goals as goal

pub overflow_sub-kept-in-loop-kept : goal.overflow_sub-kept-in-loop-kept
overflow_sub-kept-in-loop-kept c =
    let reached : BinderFound c.requires.proof c.args.ws.now c.args.floor c.args.used (c.args.n - c.loop-kept.left) c.requires.Γ c.loop-kept.kept =
    c.loop-kept.invariant.1 c.requires.proof c.requires.Γ c.requires.binders in
    let next : EntryStep c.args.ws.now c.args.floor c.loop-kept.kept = entry_step c.loop-kept-test.true c.requires.inside reached in
    omega arith

pub loop-kept-smaller : goal.loop-kept-smaller
loop-kept-smaller c =
    let reached : BinderFound c.requires.proof c.args.ws.now c.args.floor c.args.used (c.args.n - c.loop-kept.left) c.requires.Γ c.loop-kept.kept =
    c.loop-kept.invariant.1 c.requires.proof c.requires.Γ c.requires.binders in
    let next : EntryStep c.args.ws.now c.args.floor c.loop-kept.kept = entry_step c.loop-kept-test.true c.requires.inside reached in
    omega arith

pub loop-kept-preserved : goal.loop-kept-preserved
loop-kept-preserved c = (
  omega arith,
  λ proof Γ b. passed_one c.loop-kept.left c.args.n c.loop-kept-test.true c.requires.inside (omega arith) c.loop-kept.invariant.0
      (c.loop-kept.invariant.1 proof Γ b),
)

pub returns : goal.returns
returns c =
    λ proof Γ b. passed_all c.loop-kept.left c.args.n c.loop-kept.invariant.0 c.loop-kept-test.false (c.loop-kept.invariant.1 proof Γ b)
