-- The loop's sum is the end load and the changes of the tasks passed. Each of them has 16 bits, so that 32 hold the sum of all; and it is not below zero where
-- the load is not, so its cast keeps it. Assumes nothing.
use Rattle.model.proofs.Basics.{◌≡◌, suc, ◌+◌, ◌^◌, ◌<◌, arith, pos, ◌+ℤ◌, get_or, mag}
use Rattle.model.specs.{max_tasks}
use Rattle.model.proofs.TaskLists.Masks.{bit_member}
use Rattle.model.proofs.Tools.SignedSums.{next_fits, next_sum, widened_fits}
use mir.Syntax.{w16, w32}
use mir.Val.{to_z}
use Rattle.kernel_list.specs.Lists.{sum_of_below}
use Rattle.kernel_list.proofs.Walks.{in_list, task_in, not_passed, passed, one_less, none_left}
use Rattle.kernel_list.proofs.Loads.{LoadBelow, task_open, task_done, sum_on, cast_fits, cast_is}
use Rattle.kernel_list.proofs.load.Goals.{In-None, In-Some}
use Rattle.kernel_list.proofs.load.Goals as goal

there : (c : In-Some) → c.in-Some.t < max_tasks
there c = task_in c.loop-t.invariant.1 c.requires.list c.in-Some.ensures.steps.0

-- its change has 16 bits, and the sum so far is that of the tasks below it
small : (c : In-Some) → mag (get_or c.args.change.now c.in-Some.t (pos 0)) < 2 ^ 15
small c = c.requires.small c.in-Some.t (there c) (bit_member _ _ (in_list c.loop-t.invariant.1 c.requires.list c.in-Some.ensures.steps.0))

so_far : (c : In-Some) → LoadBelow c.args.end_load c.args.change.now c.args.k c.in-Some.t (to_z w32 c.loop-t.sum-bits)
so_far c =
    let h = c.loop-t.invariant in
    let n = c.in-Some.ensures.steps.0 in
    let a = c.args in
    sum_on a.end_load a.change.now a.k h.2 (not_passed h.1 c.requires.list n)
    (passed h.1 c.requires.list n (sum_of_below a.end_load a.change.now a.k) (task_done a.end_load a.change.now a.k))

opens : (c : In-Some) → let a = c.args in
    sum_of_below a.end_load a.change.now a.k (suc c.in-Some.t) ≡ sum_of_below a.end_load a.change.now a.k c.in-Some.t +ℤ get_or a.change.now c.in-Some.t (pos 0)
opens c = task_open c.args.end_load c.args.change.now c.args.k c.in-Some.t (in_list c.loop-t.invariant.1 c.requires.list c.in-Some.ensures.steps.0)

-- all are summed
summed : (c : In-None) → LoadBelow c.args.end_load c.args.change.now c.args.k max_tasks (to_z w32 c.loop-t.sum-bits)
summed c =
    let h = c.loop-t.invariant in
    let a = c.args in
    sum_on a.end_load a.change.now a.k h.2 h.1.few (none_left h.1 c.requires.list c.in-None.ensures.steps (sum_of_below a.end_load a.change.now a.k)
    (task_done a.end_load a.change.now a.k))

pub overflow_cast-sum-in-loop-t : goal.overflow_cast-sum-in-loop-t
overflow_cast-sum-in-loop-t c =
    let d = (goal.at.overflow_cast-sum-in-loop-t c).In-Some in
    widened_fits w16 (get_or d.args.change.now d.in-Some.t (pos 0)) (small d) w32 (omega (arith, small d))

pub overflow_add-sum : goal.overflow_add-sum
overflow_add-sum c =
    let d = (goal.at.overflow_add-sum c).In-Some in
    next_fits (so_far d) _ (small d) (opens d) (omega (arith, there d))

pub loop-t-preserved : goal.loop-t-preserved
loop-t-preserved c =
    let d = (goal.at.loop-t-preserved c).In-Some in
    let n = c.in-Some.ensures.steps in (
      c.in-Some.t + 1,
      rw n.1 (one_less c.loop-t.invariant.1 c.requires.list n.0),
      next_sum (so_far d) _ (small d) (opens d) (omega (arith, there d)),
    )

pub overflow_cast-result : goal.overflow_cast-result
overflow_cast-result c =
    cast_fits _ _ _ (summed (goal.at.overflow_cast-result c).In-None) c.requires.holds

pub returns : goal.returns
returns c =
    cast_is _ _ _ (summed (goal.at.returns c).In-None) c.requires.holds

pub bounds-change-t : goal.bounds-change-t
bounds-change-t c = there (goal.at.bounds-change-t c).In-Some
