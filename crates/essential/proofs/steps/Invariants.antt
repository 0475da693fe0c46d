-- Task by task the array has the steps so far, and the sum the changes so far: of no more than twelve tasks, so that 32 bits hold them. Assumes nothing.
use Rattle.view.specs.Sheets.{sheet_of}
use Rattle.essential.proofs.Making.{Making}
use Rattle.essential.proofs.steps.Given as goal

abbrev pub invariant-loop-t : goal.invariant-loop-t
invariant-loop-t l = Making (sheet_of l.sheet) l.steps l.below l.t
