-- The leasts below p are lowered by both doors, one after the other, and the others are as they were. Assumes nothing.
use Rattle.model.proofs.Basics.{◌<◌, arith, length}
use Rattle.kernel_row.proofs.Lowering.{none_lowered, one_lowered, still, all_lowered}
use Rattle.kernel_row.proofs.lower.Goals.{In-loop-p}
use Rattle.kernel_row.proofs.lower.Goals as goal

-- a point is left
another : (c : In-loop-p) → c.loop-p.p < length c.args.leasts.now
another c = c.loop-p-test.true

pub loop-p-init : goal.loop-p-init
loop-p-init c =
    none_lowered _ _

pub lowered-least-requires : goal.lowered-least-requires
lowered-least-requires c =
    (c.requires.0.wide _ (another (goal.at.lowered-least-requires c).In-loop-p), c.requires.0.fits _ (another (goal.at.lowered-least-requires c).In-loop-p), (_, still c.loop-p.invariant (c.requires.2.1 _ (another (goal.at.lowered-least-requires c).In-loop-p))))

pub lowered-requires : goal.lowered-requires
lowered-requires c =
    (c.requires.1.wide _ (another (goal.at.lowered-requires c).In-loop-p), c.requires.1.fits _ (another (goal.at.lowered-requires c).In-loop-p), (_, c.lowered-least.ensures _ (still c.loop-p.invariant (c.requires.2.1 _ (another (goal.at.lowered-requires c).In-loop-p)))))

pub loop-p-preserved : goal.loop-p-preserved
loop-p-preserved c =
    one_lowered c.loop-p.invariant _ (omega (arith, c.loop-p.invariant.size)) (λ n h. c.lowered.ensures _ (c.lowered-least.ensures n h))

pub returns : goal.returns
returns c f h =
    all_lowered c.loop-p.invariant _ (omega (arith, c.loop-p.invariant.size, c.loop-p-test.false)) h
