-- Of the starts so far the best is the first that costs least. Assumes nothing.
use Rattle.kernel_start.proofs.Starting.{BestBelow, cost_at}
use Rattle.kernel_start.proofs.first_start.Given as goal

abbrev pub invariant-loop-i : goal.invariant-loop-i
invariant-loop-i l = BestBelow (cost_at l.starts l.row) l.i l.best l.least
