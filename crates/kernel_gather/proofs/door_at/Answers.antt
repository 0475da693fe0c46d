-- The doors before place i are walked one by one, and the lowest of those left stands there. Assumes nothing.
use Rattle.model.proofs.Basics.{◌≡◌, arith, rules}
use Rattle.kernel_gather.proofs.Walking.{none_walked, more_left, next_door_lem, one_walked}
use Rattle.kernel_gather.proofs.door_at.Goals as goal

pub loop-init : goal.loop-init
loop-init c =
    none_walked (search rules)

pub overflow_sub-left : goal.overflow_sub-left
overflow_sub-left c =
    more_left c.loop.invariant (omega arith)

pub loop-preserved : goal.loop-preserved
loop-preserved c =
    one_walked c.loop.invariant (more_left c.loop.invariant (omega arith))

pub returns : goal.returns
returns c =
    let e : c.loop.counter ≡ c.args.i = omega arith in
    rw e at (next_door_lem c.loop.invariant (more_left c.loop.invariant (omega arith))).is
