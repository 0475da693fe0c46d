-- Point after point from the front. Assumes nothing.
use Rattle.model.proofs.Basics.{refl, arith, length}
use Rattle.model.proofs.Tools.Arrays.{none_filled, one_filled, all_filled}
use Rattle.kernel_row.proofs.end_row.Goals as goal

pub loop-p-init : goal.loop-p-init
loop-p-init c =
    none_filled _ _

pub loop-p-preserved : goal.loop-p-preserved
loop-p-preserved c =
    one_filled c.loop-p.invariant _ _ (omega (arith, c.loop-p.invariant.size, c.loop-p-test.true)) refl refl

pub returns : goal.returns
returns c =
    all_filled c.loop-p.invariant (omega arith)
