-- The places in the array are those of the definition, so the loop's test is whether pair i is kept: where it is not, the loop ends.
-- Assumes nothing.
use Rattle.model.specs.{keeps_pair}
use Rattle.model.proofs.Tools.Searches.{PassedBelow}
use Rattle.view.specs.Sheets.{sheet_of}
use Rattle.checks.proofs.breaks_pair.Given as goal

abbrev pub invariant-loop-i : goal.invariant-loop-i
invariant-loop-i l = PassedBelow l.i-end (keeps_pair (sheet_of l.sheet) l.tasks) l.i
