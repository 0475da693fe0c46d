-- The front is that of the doors walked so far: a turn adds the lowest of the doors left. Assumes nothing.
use Rattle.model.proofs.Basics.{◌-◌, length}
use Rattle.kernel_gather.specs.Gathering.{doors_in, way_at}
use Rattle.kernel_gather.proofs.Fronts.{Front}
use Rattle.kernel_gather.proofs.Walking.{Walked}
use Rattle.kernel_gather.proofs.gather.Given as goal

abbrev pub invariant-loop-left : goal.invariant-loop-left
invariant-loop-left l = Walked l.set l.left l.m × Front (way_at l.column l.sums l.slot l.back l.ends l.cells) (doors_in l.set) l.initial.ways l.ways l.m

abbrev pub decreases-loop-left : goal.decreases-loop-left
decreases-loop-left l = length (doors_in l.set) - l.m
