-- The tasks done before place i are a list with each of them once: a task that is in it is done twice. Assumes nothing.
use Rattle.checks.proofs.Placing.{DoneTo}
use Rattle.checks.proofs.done_twice.Given as goal

abbrev pub invariant-loop-t : goal.invariant-loop-t
invariant-loop-t l = DoneTo l.tasks l.done l.t-index
