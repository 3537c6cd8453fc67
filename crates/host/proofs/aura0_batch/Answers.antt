-- Batch, and its answer as one number, with the index of the item refused.
use native.Mathlib.Omega.{arith}
use Rattle.shared_tests.specs.Shared.{lent_of}
use Rattle.host.proofs.Codes.{batched_all, batch_fits, batched_none}
use Rattle.host.proofs.aura0_batch.Goals as goal

pub overflow_cast-index : goal.overflow_cast-index
overflow_cast-index c =
    let (few, fits) = batch_fits (lent_of c.args.signature.now c.args.n c.args.workspace.now) c.args.register.now c.args.day c.args.items.now _ _
    c.batch.ensures c.in-Err.item c.in-Err.is (omega (arith, c.well_formed)) in
    omega (arith, few)

pub code-requires : goal.code-requires
code-requires c =
    let (few, fits) = batch_fits (lent_of c.args.signature.now c.args.n c.args.workspace.now) c.args.register.now c.args.day c.args.items.now _ _
    c.batch.ensures c.in-Err.item c.in-Err.is (omega (arith, c.well_formed)) in
    fits

pub returns-in-Ok : goal.returns-in-Ok
returns-in-Ok c =
    batched_all (lent_of c.args.signature.now c.args.n c.args.workspace.now) c.args.register.now c.args.day c.args.items.now _ _
    c.batch.ensures c.in-Ok.is

pub returns-in-Err : goal.returns-in-Err
returns-in-Err c =
    batched_none (lent_of c.args.signature.now c.args.n c.args.workspace.now) c.args.register.now c.args.day c.args.items.now _ _
    c.batch.ensures c.in-Err.item c.in-Err.is _ c.code.ensures
