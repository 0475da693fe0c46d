-- From place i on, the array has where each task is first done: going down, an earlier place takes a later one's. Assumes nothing.
use Rattle.checks.proofs.Placing.{PlacedFrom}
use Rattle.checks.proofs.places.Given as goal

abbrev pub invariant-loop-i : goal.invariant-loop-i
invariant-loop-i l = PlacedFrom l.tasks l.at l.i
