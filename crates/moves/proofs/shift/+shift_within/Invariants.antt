-- The shift in place, by recursion on a term's children: a variable that is free is moved and counted, one that is
-- bound, an atom or a Sign stays, and of a node the first child is shifted and then the second, which the first leaves
-- where it stands. The measure is the number of words from the term's place to the end of the list.
use Prim.Native.Nat.{◌-◌}
use lib.ListN.{length}
use Rattle.moves.proofs.shift.+shift_within.Given as goal

abbrev pub decreases-shift_within : goal.decreases-shift_within
decreases-shift_within l = length l.words.now - l.at
