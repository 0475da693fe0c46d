-- The loop's sum is the end load plus the negative changes of the tasks below t, in 32 bits: as many tasks as a mask has bits cannot
-- leave them. Assumes nothing.
use Rattle.view.specs.Sheets.{sheet_of}
use Rattle.essential.proofs.Lightest.{LightestBelow}
use Rattle.essential.proofs.lightest_too_light.Given as goal

abbrev pub invariant-loop-t : goal.invariant-loop-t
invariant-loop-t l = LightestBelow (sheet_of l.sheet) l.t l.lightest
