-- The array has, for each task, its doors of those so far. Assumes nothing.
use Rattle.model.proofs.Basics.{◌≡◌, refl, ◌<◌, arith, rules}
use Rattle.model.specs.{map_below, max_tasks, max_doors}
use Rattle.tasklist.proofs.Shifts.{joined}
use Rattle.view.specs.Sheets.{sheet_of}
use Rattle.view.proofs.Counted.{doors_are}
use Rattle.kernel_prepare.proofs.Joining.{doors_join, one_joined, joined_fits}
use Rattle.kernel_prepare.proofs.Ranged.doors_of_tasks.Goals.{In-loop-d}
use Rattle.kernel_prepare.proofs.Ranged.doors_of_tasks.Goals as goal

-- the task of the door has its place
task : (c : In-loop-d) → (sheet_of c.args.self.now.sheet).task c.loop-d.d < max_tasks
task c =
    let r = c.args.self.now in
    let e = doors_are r.sheet.viewed in omega (arith, r.counts.tasks, r.ranges.task c.loop-d.d (omega arith))

pub loop-d-init : goal.loop-d-init
unfolding map_below
loop-d-init c = refl

pub bounds-doors-t : goal.bounds-doors-t
bounds-doors-t c = let l = task (goal.at.bounds-doors-t c).In-loop-d in omega arith

pub bounds-doors-t-in-loop-d : goal.bounds-doors-t-in-loop-d
bounds-doors-t-in-loop-d c = let l = task (goal.at.bounds-doors-t-in-loop-d c).In-loop-d in omega arith

-- one door more: it joins those of its task
pub loop-d-preserved : goal.loop-d-preserved
loop-d-preserved c =
    let S = sheet_of c.args.self.now.sheet in
    let e = doors_are c.args.self.now.sheet.viewed in
    let m : c.loop-d.d < max_doors = omega (arith, c.args.self.now.counts.doors) in
    let t : c.task-t.result < max_tasks = let l = task (goal.at.loop-d-preserved c).In-loop-d in omega arith in
    let fits = joined_fits (doors_join S) max_tasks c.loop-d.d c.loop-d.invariant t (λ i k. omega arith) in
    one_joined (doors_join S) max_tasks c.loop-d.d c.loop-d.invariant t (joined max_doors _ c.loop-d.d m fits) (search rules) refl

pub returns : goal.returns
returns c =
    let n = doors_are c.args.self.now.sheet.viewed in
    let e : c.loop-d.d ≡ (sheet_of c.args.self.now.sheet).doors = omega arith in
    rw e at c.loop-d.invariant
