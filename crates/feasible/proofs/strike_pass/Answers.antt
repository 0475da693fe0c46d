-- The tasks below t were struck off in turn. Once the list is empty, it stays empty. Assumes nothing.
use Rattle.model.proofs.Basics.{sym, ◌∙◌, ◌+◌, arith, length}
use Rattle.feasible.proofs.Striking.{next_task, empty_passed}
use Rattle.feasible.proofs.strike_pass.Goals as goal

-- the list is empty
pub returns-then-left-eq0 : goal.returns-then-left-eq0
returns-then-left-eq0 c =
    let a = c.args in
    let e = next_task _ _ c.loop-t.t c.loop-t.invariant c.strike-left.ensures in
    sym (empty_passed a.senders.now a.k (c.loop-t.t + 1) (length a.senders.now) (omega arith) (sym e ∙ c.if-left-eq0.true))
