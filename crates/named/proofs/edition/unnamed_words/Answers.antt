-- `unnamed_words` writes words without their names, one by one.
use Rattle.std.proofs.Common.{arith, rules}
use Rattle.named.proofs.Clears.{unnamed_turn}
use Rattle.named.proofs.edition.unnamed_words.Goals as goal

pub loop-i-preserved : goal.loop-i-preserved
loop-i-preserved c =
    unnamed_turn _ _ _ _ _ _ c.loop-i.invariant (omega arith) (omega arith) (search rules)
