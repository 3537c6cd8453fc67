-- `proposition` tells whether a type's conclusion is none of the six sorts, by recursion on the body of a Pi. The
-- measure is the number of words from the type's place to the end of the list.
use Prim.Native.Nat.{◌-◌}
use lib.ListN.{length}
use Rattle.parts.proofs.proposition.+proposition.Given as goal

abbrev pub decreases-proposition : goal.decreases-proposition
decreases-proposition l = length l.words.now - l.at
