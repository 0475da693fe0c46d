-- The array is filled from the front, with a door while i is below n and with 0 from there on. Assumes nothing.
use Rattle.model.proofs.Basics.{cond, ltb}
use Rattle.model.specs.{door_in}
use Rattle.model.proofs.Tools.Arrays.{Filled}
use Rattle.layout.proofs.read_doors.Given as goal

abbrev pub invariant-loop-i : goal.invariant-loop-i
invariant-loop-i l = Filled (λ j. cond (ltb j l.n) (door_in l.q j) 0) l.initial.doors l.doors l.i
