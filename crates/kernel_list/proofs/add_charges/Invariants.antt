-- Rule after rule what it costs is added at its door. Assumes nothing.
use Rattle.model.proofs.Basics.{get_or}
use Rattle.kernel_list.proofs.Charges.{Charged}
use Rattle.kernel_list.proofs.add_charges.Given as goal

abbrev pub invariant-loop-i : goal.invariant-loop-i
invariant-loop-i l = Charged l.rules.door l.rules.charge (λ j. get_or l.times j 0) l.initial.sums l.sums l.i
