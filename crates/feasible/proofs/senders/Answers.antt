-- The array has, for each task, its senders in the pairs so far. Assumes nothing.
use Rattle.model.proofs.Basics.{◌<◌, arith}
use Rattle.model.specs.{max_tasks}
use Rattle.view.proofs.Counted.{pairs_are}
use Rattle.feasible.proofs.Waiting.{wait_for, all_wait}
use Rattle.feasible.proofs.senders.Goals as goal

-- one pair more: its sender joins what its receiver waits for
pub loop-i-preserved : goal.loop-i-preserved
loop-i-preserved c =
    let n = pairs_are c.args.sheet.now.viewed in
    let r = c.receiver-to in
    let there : r.result < max_tasks = rw r.ensures (c.requires c.loop-i.i (omega arith)) in
    wait_for c.loop-i.invariant r.ensures there c.sender.ensures c.with.ensures

pub returns : goal.returns
returns c =
    let n = pairs_are c.args.sheet.now.viewed in all_wait c.loop-i.invariant (omega arith)
