-- The loop's sum is what the rules below i cost, and no part of the sum is above the whole. Assumes nothing.
use Rattle.view.specs.Sheets.{sheet_of}
use Rattle.route.proofs.Charging.{ChargedBelow}
use Rattle.route.proofs.charges.Given as goal

abbrev pub invariant-loop-i : goal.invariant-loop-i
invariant-loop-i l = ChargedBelow (sheet_of l.sheet) l.lists l.i l.sum
