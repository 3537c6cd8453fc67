-- `load` writes the words of the requests one behind another. The invariant, `Loading`: with those of the requests that
-- are left written behind them, the output is that of the whole load.
use Rattle.load.proofs.Writes.{Loading}
use Rattle.load.proofs.load.Given as goal

abbrev pub invariant-loop-i : goal.invariant-loop-i
invariant-loop-i l = Loading l.seed l.count l.initial.output l.output l.state l.i
