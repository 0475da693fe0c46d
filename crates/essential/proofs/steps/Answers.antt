-- Task by task the array has the steps so far, and the sum the changes so far: of no more than twelve tasks, so that 32 bits hold them. Assumes nothing.
use Rattle.model.proofs.Basics.{◌<◌, arith, refl}
use Rattle.model.specs.{max_tasks}
use Rattle.view.proofs.Counted.{tasks_are}
use Rattle.essential.proofs.Making.{one_made}
use Rattle.essential.proofs.steps.Goals.{After-change-change}
use Rattle.essential.proofs.steps.Goals as goal

-- the task has its place
placed : (c : After-change-change) → c.loop-t.t < max_tasks
placed c = omega (arith, tasks_are c.args.sheet.now.viewed, c.requires, c.loop-t-test.true)

-- one task more
pub loop-t-preserved : goal.loop-t-preserved
loop-t-preserved c =
    let r = c.change-change in (one_made c.loop-t.invariant r.result r.type_inv r.ensures (placed (goal.at.loop-t-preserved c).After-change-change) refl refl)
