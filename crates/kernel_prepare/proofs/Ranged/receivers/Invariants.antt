-- The array has, for each task, its receivers in the pairs so far. Assumes nothing.
use Rattle.model.proofs.Basics.{◌≡◌}
use Rattle.model.specs.{map_below, max_tasks}
use Rattle.view.specs.Sheets.{sheet_of}
use Rattle.kernel_prepare.specs.Preparing.{receivers_below}
use Rattle.kernel_prepare.proofs.Ranged.receivers.Given as goal

abbrev pub invariant-loop-i : goal.invariant-loop-i
invariant-loop-i l = l.receivers ≡ map_below max_tasks (receivers_below (sheet_of l.sheet) l.i)
