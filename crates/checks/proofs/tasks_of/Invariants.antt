-- The loop has put the task of each door before place i in its place. Assumes nothing.
use Rattle.model.proofs.Basics.{get_or, replicate}
use Rattle.model.specs.{max_plan_doors}
use Rattle.model.proofs.Tools.Arrays.{Filled}
use Rattle.view.specs.Sheets.{sheet_of}
use Rattle.checks.proofs.tasks_of.Given as goal

abbrev pub invariant-loop-i : goal.invariant-loop-i
invariant-loop-i l = Filled (λ j. (sheet_of l.sheet).task (get_or l.doors j 0)) (replicate max_plan_doors 0) l.tasks l.i
