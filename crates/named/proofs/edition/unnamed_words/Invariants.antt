-- `unnamed_words` writes words without their names, one by one. The invariant: the first i are written.
use Rattle.std.proofs.Common.{◌≡◌, map, take}
use Rattle.words.specs.Place.{written_at}
use Rattle.editions.specs.Edition.{unnamed}
use Rattle.named.proofs.edition.unnamed_words.Given as goal

abbrev pub invariant-loop-i : goal.invariant-loop-i
invariant-loop-i l = l.out ≡ written_at l.initial.out 0 (map (unnamed l.edition) (take l.i l.words))
