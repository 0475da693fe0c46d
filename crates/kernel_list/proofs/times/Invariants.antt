-- Rule after rule from the front. Assumes nothing.
use Rattle.model.proofs.Tools.Arrays.{Filled}
use Rattle.kernel_list.specs.Lists.{times_of}
use Rattle.kernel_list.proofs.times.Given as goal

abbrev pub invariant-loop-i : goal.invariant-loop-i
invariant-loop-i l = Filled (times_of l.rules.watched l.rules.least l.rules.most l.k) l.initial.out l.out l.i
