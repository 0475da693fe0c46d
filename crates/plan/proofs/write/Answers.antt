-- A refusal comes before any write; where n and the room are right, the four parts stand one behind the other. Assumes nothing.
use Rattle.model.proofs.Basics.{◌≡◌, sym, ◌∙◌, false, arith, length, length-take-le}
use Rattle.model.specs.{line_at, plan_start_at, plan_doors_at, plan_length, wrong_tasks}
use Rattle.model.proofs.Bytes.PlanBytes.{fitting}
use Rattle.plan.proofs.Parts.{wrong_number, no_room, plan_written}
use Rattle.plan.proofs.write.Goals.{Else-wrong_tasks}
use Rattle.plan.proofs.write.Goals as goal

-- 12 does not apply
right : (c : Else-wrong_tasks) → let a = c.args in wrong_tasks a.n (length a.doors.now) ≡ false
right c = sym c.wrong_tasks.ensures ∙ c.if-wrong_tasks.false

-- 12
pub returns-then-wrong_tasks : goal.returns-then-wrong_tasks
returns-then-wrong_tasks c =
    let both = wrong_number _ _ _ _ _ (sym c.wrong_tasks.ensures ∙ c.if-wrong_tasks.true) in record { answer = both.0; bytes = both.1 }

pub overflow_cast-tasks : goal.overflow_cast-tasks
overflow_cast-tasks c =
    record { fits = omega (arith, (fitting _ _ (right (goal.at.overflow_cast-tasks c).Else-wrong_tasks)).1) }

-- 21
pub returns-then-buf-length : goal.returns-then-buf-length
returns-then-buf-length c =
    let both = no_room _ _ _ _ _ _ (right (goal.at.returns-then-buf-length c).Else-wrong_tasks) c.byte_length-length.ensures c.if-buf-length.true in record { answer = both.0; bytes = both.1 }

pub slice_bounds-write_row-end : goal.slice_bounds-write_row-end
slice_bounds-write_row-end c =
    sym (length-take-le _ _ (fitting _ _ (right (goal.at.slice_bounds-write_row-end c).Else-wrong_tasks)).2)

pub overflow_sub-length : goal.overflow_sub-length
unfolding plan_length
overflow_sub-length c =
    omega (arith, c.byte_length-length.ensures)

-- the plan is written
pub returns : goal.returns
unfolding plan_doors_at plan_start_at line_at
returns c =
    let both = plan_written _ _ _ _ _ _ (right (goal.at.returns c).Else-wrong_tasks) c.byte_length-length.ensures c.if-buf-length.false
    c.write_head.ensures c.write_u16.ensures c.write_row.ensures c.write_u64.ensures in record { answer = both.0; bytes = both.1 }
