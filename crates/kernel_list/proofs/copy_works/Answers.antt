-- Door after door from the front. Assumes nothing.
use Rattle.model.proofs.Basics.{refl, arith}
use Rattle.model.proofs.Tools.Arrays.{none_filled, one_filled, front_written}
use Rattle.kernel_list.proofs.copy_works.Goals as goal

pub loop-d-init : goal.loop-d-init
loop-d-init c = none_filled _ _

pub loop-d-preserved : goal.loop-d-preserved
loop-d-preserved c =
    one_filled c.loop-d.invariant _ _ (omega (arith, c.loop-d.invariant.size, c.requires, c.loop-d-test.true)) c.from.ensures refl

pub returns : goal.returns
returns c =
    front_written c.args.n c.loop-d.invariant (omega (arith, c.loop-d.auto.d-end, c.loop-d-test.false))
