-- Each turn lays the line of one step behind the others, and strikes its task off the list that is left: the doors that are left complete
-- it. Assumes nothing.
use Rattle.model.proofs.Basics.{refl, arith}
use Rattle.lines.proofs.Laying.{laid_room}
use Rattle.text.proofs.Stepping.{count, door_in_lem, no_step, step_room, one_step, all_steps}
use Rattle.text.proofs.step_lines.Goals as goal

pub loop-d-init : goal.loop-d-init
loop-d-init c =
    let p = c.requires in no_step p.0 p.1 (count _ c.args.sheet.now.viewed.is) c.full-left.ensures

pub task-t-requires : goal.task-t-requires
task-t-requires c =
    door_in_lem c.requires.0 c.loop-d.d-index c.loop-d-test.true

pub step_line-end-requires : goal.step_line-end-requires
step_line-end-requires c =
    step_room c.requires.0 c.requires.1 c.loop-d.invariant (omega arith)

-- one step more: its line is laid, and its task struck off
pub loop-d-preserved : goal.loop-d-preserved
loop-d-preserved c =
    one_step c.requires.0 c.requires.1 c.loop-d.invariant (omega arith) refl c.task-t.ensures (omega (arith, c.type_inv.doors c.loop-d.d-index)) (omega arith)
    c.step_line-end.ensures c.without-after.ensures

pub shape_of-out : goal.shape_of-out
shape_of-out c =
    laid_room c.loop-d.invariant.laid

pub returns : goal.returns
returns c =
    all_steps c.loop-d.invariant (omega arith)
