-- The array has, for each task, its senders in the pairs so far. Assumes nothing.
use Rattle.view.specs.Sheets.{sheet_of}
use Rattle.feasible.proofs.Waiting.{Waiting}
use Rattle.feasible.proofs.senders.Given as goal

abbrev pub invariant-loop-i : goal.invariant-loop-i
invariant-loop-i l = Waiting (sheet_of l.sheet) l.senders l.i
