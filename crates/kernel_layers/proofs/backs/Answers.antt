-- Door after door from the front. Assumes nothing.
use Rattle.model.proofs.Basics.{refl, arith}
use Rattle.model.proofs.Tools.Arrays.{none_filled, one_filled, front_written}
use Rattle.kernel_layers.specs.Layers.{backs_of}
use Rattle.kernel_layers.proofs.backs.Goals as goal

pub loop-d-init : goal.loop-d-init
loop-d-init c =
    none_filled _ _

pub loop-d-preserved : goal.loop-d-preserved
loop-d-preserved c =
    one_filled c.loop-d.invariant _ _ (omega (arith, c.loop-d.invariant.size, c.loop-d-test.true, c.requires.doors)) (rw (c.from-points.ensures, c.from.ensures) refl) refl

pub returns : goal.returns
unfolding backs_of
returns c =
    front_written c.args.x.now.counts.doors c.loop-d.invariant (omega arith)
