-- Door after door from the front. Assumes nothing.
use Rattle.model.proofs.Basics.{◌-◌, ◌*◌, ◌^◌, get_or}
use Rattle.model.proofs.Tools.Arrays.{Filled}
use Rattle.kernel_table.proofs.backs.Given as goal

abbrev pub invariant-loop-d : goal.invariant-loop-d
invariant-loop-d l = Filled (λ e. l.x.counts.points * 2 ^ get_or l.x.doors.task e 0 - get_or l.x.doors.depart e 0) l.initial.back l.back l.d
