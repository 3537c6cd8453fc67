-- The Signs of a term in word order. The invariant: from word i on the words left decide, no Sign before is refused.
use Rattle.signs.proofs.Scans.{Scanning}
use Rattle.signs.proofs.first_miss_behind.Given as goal

abbrev pub invariant-loop-i : goal.invariant-loop-i
invariant-loop-i l = Scanning l.when l.source.span l.source.list.now l.asked l.term l.i
