-- The measure of `convert_term` is the number of words from the place on.
use Prim.Native.Nat.{◌-◌}
use lib.ListN.{length}
use Rattle.named.proofs.convert.+convert_term.Given as goal

abbrev pub decreases-convert_term : goal.decreases-convert_term
decreases-convert_term l = length l.words.now - l.at
