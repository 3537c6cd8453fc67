-- `operations` tests the permits and receipts, by a loop over operations. The invariant: the operations below `i` have
-- theirs. The measure is the number of operations left.
use mathlib.Core.Path.{◌≡◌}
use mathlib.Core.Bool.{true}
use mathlib.Core.List.{List}
use Rattle.logic.specs.Term.{Term}
use Rattle.logic.specs.SignatureList.{operations}
use Rattle.rules.specs.Scope.{Declared}
use Rattle.signature.proofs.operations.operations.Given as goal

abbrev pub invariant-loop-i : goal.invariant-loop-i
invariant-loop-i l = ((Σ : List Term) → Declared l.constants.sig.now l.constants.table.now Σ → operations Σ l.i ≡ true)
