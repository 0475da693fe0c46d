-- The loop has put the task of each door before place i in its place. Assumes nothing.
use Rattle.model.proofs.Basics.{refl, arith, rules}
use Rattle.model.proofs.Tools.Arrays.{none_filled, one_filled}
use Rattle.model.proofs.Theory.Solutions.{door_in_lem}
use Rattle.view.specs.Sheets.{sheet_of}
use Rattle.checks.proofs.Placing.{all_mapped}
use Rattle.checks.proofs.tasks_of.Goals as goal

pub loop-i-init : goal.loop-i-init
loop-i-init c =
    none_filled _ _

pub task-requires : goal.task-requires
task-requires c =
    door_in_lem _ c.args.doors.now c.requires.0 c.loop-i.i c.loop-i-test.true

-- the task of one door more
pub loop-i-preserved : goal.loop-i-preserved
loop-i-preserved c =
    one_filled c.loop-i.invariant _ _ (search rules) c.task.ensures refl

pub returns : goal.returns
returns c =
    let a = c.args in
    all_mapped (sheet_of a.sheet.now).task a.doors.now c.loop-i.invariant (omega arith)
