-- Door after door from the front. Assumes nothing.
use Rattle.model.proofs.Basics.{refl, arith}
use Rattle.model.proofs.Tools.Arrays.{none_filled, one_filled, front_written}
use Rattle.kernel_table.specs.Cells.{backs_of}
use Rattle.kernel_table.proofs.Standing.{shifted}
use Rattle.kernel_table.proofs.backs.Goals as goal

pub loop-d-init : goal.loop-d-init
loop-d-init c =
    none_filled _ _

pub loop-d-preserved : goal.loop-d-preserved
loop-d-preserved c =
    let m = c.loop-d-test.true in
    one_filled c.loop-d.invariant _ _ (omega (arith, c.loop-d.invariant.size, m, c.requires.doors)) (rw (c.from-points.ensures, c.from.ensures, shifted c.requires c.loop-d.d m) refl) refl

pub returns : goal.returns
unfolding backs_of
returns c =
    front_written c.args.x.now.counts.doors c.loop-d.invariant (omega arith)
