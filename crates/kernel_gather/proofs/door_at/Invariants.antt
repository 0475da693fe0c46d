-- The doors before place i are walked one by one, and the lowest of those left stands there. Assumes nothing.
use Rattle.kernel_gather.proofs.Walking.{Walked}
use Rattle.kernel_gather.proofs.door_at.Given as goal

abbrev pub invariant-loop : goal.invariant-loop
invariant-loop l = Walked l.set l.left l.counter
