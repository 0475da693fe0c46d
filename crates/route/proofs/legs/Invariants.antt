-- Before each turn the sum is the legs of the steps from i on, and the load that of the list that is open there; the turn takes step
-- i - 1 to them. Assumes nothing.
use Rattle.view.specs.Sheets.{sheet_of}
use Rattle.route.proofs.Steps.{LegsFrom}
use Rattle.route.proofs.legs.Given as goal

abbrev pub invariant-loop-i : goal.invariant-loop-i
invariant-loop-i l = LegsFrom (sheet_of l.sheet) l.p l.doors l.i l.sum l.load
