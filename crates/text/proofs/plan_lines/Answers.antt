-- The plan in hand has the doors and the cost that the bytes hold; the lines of its steps are laid behind those of cost and start. Assumes nothing.
use Rattle.model.proofs.Basics.{arith}
use Rattle.hand.specs.Hands.{hand_of}
use Rattle.text.proofs.Stepping.{count}
use Rattle.text.proofs.Holding.{Held, few, as_many_doors, steps, steps_room, plan_laid}
use Rattle.text.proofs.plan_lines.Goals.{After-in_hand-x}
use Rattle.text.proofs.plan_lines.Goals as goal

held : (c : After-in_hand-x) →
    let a = c.args in
    Held a.s.now a.q.now c.of-view.result.tasks (hand_of c.in_hand-x.result)
held c = record { printable = c.requires.0; tasks = count _ c.of-view.ensures; hand = c.in_hand-x.ensures }

pub step_lines-requires : goal.step_lines-requires
step_lines-requires c =
    (steps (held (goal.at.step_lines-requires c).After-in_hand-x), steps_room (held (goal.at.step_lines-requires c).After-in_hand-x) c.head_lines-behind_head.ensures c.requires.1 (omega arith) (omega arith))

pub returns : goal.returns
returns c =
    plan_laid (held (goal.at.returns c).After-in_hand-x) c.head_lines-behind_head.ensures c.start_in.ensures c.step_lines.ensures

pub shared_ref_as_front-step_lines : goal.shared_ref_as_front-step_lines
shared_ref_as_front-step_lines c =
    few (held (goal.at.shared_ref_as_front-step_lines c).After-in_hand-x)

pub slice_bounds-step_lines-end : goal.slice_bounds-step_lines-end
slice_bounds-step_lines-end c =
    as_many_doors (held (goal.at.slice_bounds-step_lines-end c).After-in_hand-x)

-- the layout of a sheet that is planned holds
pub invariant_of-sheet : goal.invariant_of-sheet
invariant_of-sheet c =
    record { viewed = rw c.of-view.ensures c.requires.0.steps.view }
