-- Rule after rule from the front. Assumes nothing.
use Rattle.model.proofs.Basics.{refl, arith}
use Rattle.model.proofs.Tools.Arrays.{none_filled, one_filled, front_written}
use Rattle.kernel_list.specs.Lists.{times_of}
use Rattle.kernel_list.proofs.times.Goals as goal

pub loop-i-init : goal.loop-i-init
loop-i-init c = none_filled _ _

pub loop-i-preserved : goal.loop-i-preserved
unfolding times_of
loop-i-preserved c =
    one_filled c.loop-i.invariant _ _ (omega (arith, c.loop-i.invariant.size, c.requires, c.loop-i-test.true)) c.often.ensures refl

pub returns : goal.returns
returns c =
    front_written c.args.n c.loop-i.invariant (omega (arith, c.loop-i.auto.i-end, c.loop-i-test.false))
