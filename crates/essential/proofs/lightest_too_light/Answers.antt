-- The loop's sum is the end load plus the negative changes of the tasks below t, in 32 bits: as many tasks as a mask has bits cannot
-- leave them. Assumes nothing.
use Rattle.model.proofs.Basics.{suc, ◌+◌, ◌*◌, ◌^◌, ◌<◌, arith}
use Rattle.view.specs.Sheets.{sheet_of}
use Rattle.model.proofs.Tools.SignedSums.{next_sum, same_sum}
use Rattle.view.proofs.Counted.{tasks_are}
use Rattle.essential.proofs.Lightest.{taken_away, not_taken, all_tasks}
use Rattle.essential.proofs.lightest_too_light.Goals.{In-loop-t, then-change-lt0, else-change-lt0}
use Rattle.essential.proofs.lightest_too_light.Goals as goal

-- one task more still leaves room
room : (c : In-loop-t) → 65535 + suc c.loop-t.t * 2 ^ 15 < 2 ^ 31
room c = omega (arith, tasks_are c.args.sheet.now.viewed, c.requires, c.loop-t-test.true)

-- one task more: its change is summed if it is negative
pub loop-t-preserved : goal.loop-t-preserved
loop-t-preserved c =
    let h = c.loop-t.invariant in
    let r = c.change-change in
    elim c.if-change-lt0.branch [
      | then-change-lt0 w ↦ rw w.lightest-is (next_sum h r.result r.type_inv (taken_away (sheet_of c.args.sheet.now) h r.ensures r.type_inv w.if-change-lt0.true) (room (goal.at.loop-t-preserved c).In-loop-t))
      | else-change-lt0 w ↦ rw w.lightest-is (same_sum h (not_taken (sheet_of c.args.sheet.now) h r.ensures r.type_inv w.if-change-lt0.false))
    ]

pub returns : goal.returns
returns c =
    let n = tasks_are c.args.sheet.now.viewed in all_tasks (sheet_of c.args.sheet.now) c.loop-t.invariant (omega arith)
