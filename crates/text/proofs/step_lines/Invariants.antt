-- Each turn lays the line of one step behind the others, and strikes its task off the list that is left: the doors that are left complete
-- it. Assumes nothing.
use Rattle.text.proofs.Stepping.{Stepped}
use Rattle.text.proofs.step_lines.Given as goal

abbrev pub invariant-loop-d : goal.invariant-loop-d
invariant-loop-d l = Stepped l.sheet.bytes.now l.doors l.initial.out l.out l.at l.end l.left l.d-index
