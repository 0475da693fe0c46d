-- Sender and receiver are held to the number of tasks. Assumes nothing.
use Rattle.model.proofs.Basics.{le-leb, lt-leb}
use Rattle.model.specs.{bad_pair}
use Rattle.view.proofs.Counted.{tasks_are}
use Rattle.range.proofs.bad_pair.Goals as goal

-- the sender is out of range
pub returns-then-tasks-sender : goal.returns-then-tasks-sender
unfolding bad_pair
returns-then-tasks-sender c =
    rw (← tasks_are c.args.sheet.now.viewed, ← c.sender.ensures, le-leb _ _ c.if-tasks-sender.true)

-- it is not: the receiver decides
pub returns-else-tasks-sender : goal.returns-else-tasks-sender
unfolding bad_pair
returns-else-tasks-sender c =
    rw (← tasks_are c.args.sheet.now.viewed, ← c.sender.ensures, ← c.receiver.ensures, lt-leb _ _ c.if-tasks-sender.false)
