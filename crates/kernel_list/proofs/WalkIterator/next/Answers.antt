-- The machine's count of zeros finds the lowest task, and without it less is left. Assumes nothing.
use Rattle.model.proofs.Basics.{arith}
use Rattle.kernel_list.proofs.Walks.{is_lowest, fewer}
use Rattle.kernel_list.proofs.WalkIterator.next.Goals as goal

pub returns-clause-steps : goal.returns-clause-steps
returns-clause-steps c =
    (is_lowest _ c.if-self-eq0.false (omega arith), c.without-self.ensures)

pub returns-clause-goes : goal.returns-clause-goes
returns-clause-goes c =
    let l = fewer (is_lowest c.args.self.now.0 c.if-self-eq0.false (omega arith)) in
    record { on = λ _. (tt, tt, rw c.without-self.ensures l); keeps = tt; rests = λ _. tt }
