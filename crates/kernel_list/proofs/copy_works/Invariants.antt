-- Door after door from the front. Assumes nothing.
use Rattle.model.proofs.Basics.{get_or}
use Rattle.model.proofs.Tools.Arrays.{Filled}
use Rattle.kernel_list.proofs.copy_works.Given as goal

abbrev pub invariant-loop-d : goal.invariant-loop-d
invariant-loop-d l = Filled (λ e. get_or l.work e 0) l.initial.sums l.sums l.d
