-- The array has, for each task, its doors of those so far. Assumes nothing.
use Rattle.model.proofs.Basics.{◌≡◌}
use Rattle.model.specs.{map_below, max_tasks}
use Rattle.view.specs.Sheets.{sheet_of}
use Rattle.kernel_prepare.specs.Preparing.{doors_below}
use Rattle.kernel_prepare.proofs.Ranged.doors_of_tasks.Given as goal

abbrev pub invariant-loop-d : goal.invariant-loop-d
invariant-loop-d l = l.doors ≡ map_below max_tasks (doors_below (sheet_of l.sheet) l.d)
