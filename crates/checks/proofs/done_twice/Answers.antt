-- The tasks done before place i are a list with each of them once: a task that is in it is done twice. Assumes nothing.
use Rattle.model.proofs.Basics.{sym, ◌∙◌}
use Rattle.model.specs.{decode}
use Rattle.checks.proofs.Placing.{none_done, done_again, done_next, all_once}
use Rattle.checks.proofs.done_twice.Goals as goal

pub loop-t-init : goal.loop-t-init
loop-t-init c =
    none_done _

-- the task is done already
pub returns-then-contains : goal.returns-then-contains
returns-then-contains c =
    let p = c.requires in
    done_again _ p.1 p.0 c.loop-t.invariant c.loop-t-test.true (sym c.contains.ensures ∙ c.if-contains.true)

-- one task more, not done before
pub loop-t-preserved : goal.loop-t-preserved
loop-t-preserved c =
    done_next (decode c.args.s.now) c.requires.1 c.requires.0 c.loop-t.invariant c.loop-t-test.true
    (sym c.contains.ensures ∙ c.if-contains.false) c.with-done.ensures

-- no task is
pub returns : goal.returns
returns c =
    let p = c.requires in all_once _ p.1 p.0 c.loop-t.invariant c.loop-t-test.false
