-- Point after point from the front. Assumes nothing.
use Rattle.model.proofs.Basics.{get_or}
use Rattle.model.proofs.Tools.Arrays.{Filled}
use Rattle.kernel_row.proofs.end_row.Given as goal

abbrev pub invariant-loop-p : goal.invariant-loop-p
invariant-loop-p l = Filled (λ q. get_or l.ends q 0) l.initial.out l.out l.p
