-- The door's task and points are held to the numbers of tasks and points, each only where the ones before are in range. Assumes nothing.
use Rattle.model.proofs.Basics.{◌≡◌, sym, ap₂, ◌∙◌, ◌||◌, leb, le-leb, lt-leb}
use Rattle.model.specs.{bad_door}
use Rattle.model.proofs.Tools.Tests.{or_last}
use Rattle.view.specs.Sheets.{sheet_of}
use Rattle.view.proofs.Counted.{tasks_are, points_are}
use Rattle.range.proofs.bad_door.Goals.{Joined-tasks-task, then-tasks-task, else-tasks-task}
use Rattle.range.proofs.bad_door.Goals as goal

-- the first two tests
two : (c : Joined-tasks-task) →
    let a = c.args in
    let S = sheet_of a.sheet.now in
    c.if-tasks-task.value ≡ (leb S.tasks (S.task a.d) || leb S.points (S.arrive a.d))
two c =
    let v = c.args.sheet.now.viewed in
    let one = ap₂ leb (tasks_are v) c.task.ensures in
    elim c.if-tasks-task.branch [
      | then-tasks-task w ↦ w.value-is ∙ rw (← tasks_are v, ← c.task.ensures, le-leb _ _ w.if-tasks-task.true)
      | else-tasks-task w ↦
          w.value-is ∙ or_last _ _ _ (sym one ∙ lt-leb _ _ w.if-tasks-task.false) (ap₂ leb (points_are v) w.arrive.ensures)
    ]

-- the task or the arrival point is out of range
pub returns-then-points-arrive : goal.returns-then-points-arrive
unfolding bad_door
returns-then-points-arrive c =
    rw (sym (two (goal.at.returns-then-points-arrive c).Joined-tasks-task) ∙ c.if-points-arrive.true) c.if-points-arrive.true

-- neither is: the departure point decides
pub returns-else-points-arrive : goal.returns-else-points-arrive
unfolding bad_door
returns-else-points-arrive c =
    or_last _ _ _ (sym (two (goal.at.returns-else-points-arrive c).Joined-tasks-task) ∙ c.if-points-arrive.false)
    (ap₂ leb (points_are c.args.sheet.now.viewed) c.depart.ensures)
