-- `accept` makes tests 4 and 5: it reads the signature and tests its permits and receipts.
use mathlib.Core.Path.{ap}
use Rattle.logic.specs.Answer.{answer}
use Rattle.shared_tests.proofs.SharedTests.{operations_fit}
use Rattle.signature.proofs.Accepted.{ConstantsRead, constants_read}
use Rattle.shared_tests.proofs.accept.Goals as goal

pub returns : goal.returns
returns c =
    let C : ConstantsRead c.args.signature.list.now c.read_signature.new.table c.in_ok-count.count =
    constants_read _ c.read_signature.ensures (ap answer c.in_ok-count.was) in
    operations_fit _ _ _ _ C _ (c.operations.ensures C.Σ C.constants_are.declared) c.if-not-operations.false
