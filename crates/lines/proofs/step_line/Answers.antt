-- Door, task and open list, one behind the other; there is room for three numbers. Assumes nothing.
use Rattle.model.proofs.Basics.{◌+◌, ◌*◌, ◌≤◌, arith, length}
use Rattle.model.specs.{ascii}
use Rattle.lines.specs.Lines.{labelled, max_digits}
use Rattle.lines.proofs.Laying.{laid_on, behind, long_label, step_is}
use Rattle.lines.proofs.step_line.Goals.{After-labelled-behind_door, After-labelled-behind_task}
use Rattle.lines.proofs.step_line.Goals as goal

long_door : (c : After-labelled-behind_door) → length (labelled (ascii "door ") c.args.door) ≤ 5 + max_digits
long_door c = long_label (ascii "door ") _ (omega arith)

long_task : (c : After-labelled-behind_task) → length (labelled (ascii " task ") (c).args.task) ≤ 6 + max_digits
long_task c = long_label (ascii " task ") _ (omega arith)

-- the task and its label fit behind the door
pub labelled-behind_task-requires : goal.labelled-behind_task-requires
labelled-behind_task-requires c =
    omega (arith, behind c.labelled-behind_door.ensures (6 + max_digits) (omega (arith, long_door (goal.at.labelled-behind_task-requires c).After-labelled-behind_door)))

-- and the list behind both
pub line-requires : goal.line-requires
line-requires c =
    let two = behind c.labelled-behind_door.ensures (12 + 2 * max_digits + 1) (omega (arith, long_door (goal.at.line-requires c).After-labelled-behind_door)) in
    omega (arith, behind c.labelled-behind_task.ensures (6 + max_digits + 1) (omega (arith, two, long_task (goal.at.line-requires c).After-labelled-behind_task)))

pub returns : goal.returns
returns c =
    rw (← step_is _ _ _) (laid_on (laid_on c.labelled-behind_door.ensures c.labelled-behind_task.ensures) c.line.ensures)
