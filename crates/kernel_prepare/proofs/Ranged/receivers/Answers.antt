-- The array has, for each task, its receivers in the pairs so far. Assumes nothing.
use Rattle.model.proofs.Basics.{◌≡◌, refl, ◌<◌, arith, rules}
use Rattle.model.specs.{map_below, max_tasks}
use Rattle.view.specs.Sheets.{sheet_of}
use Rattle.view.proofs.Counted.{pairs_are}
use Rattle.kernel_prepare.proofs.Joining.{receivers_join, one_joined}
use Rattle.kernel_prepare.proofs.Ranged.receivers.Goals.{In-loop-i}
use Rattle.kernel_prepare.proofs.Ranged.receivers.Goals as goal

-- the tasks of the pair have their places
placed : (c : In-loop-i)
    → ((sheet_of c.args.self.now.sheet).sender c.loop-i.i < max_tasks) × ((sheet_of c.args.self.now.sheet).receiver c.loop-i.i < max_tasks)
placed c =
    let r = c.args.self.now in
    let e = pairs_are r.sheet.viewed in
    let l : c.loop-i.i < (sheet_of r.sheet).pairs = omega arith in
    (omega (arith, r.counts.tasks, r.ranges.sender _ l), omega (arith, r.counts.tasks, r.ranges.receiver _ l))

pub loop-i-init : goal.loop-i-init
unfolding map_below
loop-i-init c = refl

pub bounds-receivers-from : goal.bounds-receivers-from
bounds-receivers-from c = let l = placed (goal.at.bounds-receivers-from c).In-loop-i in omega arith

pub bounds-receivers-from-in-loop-i : goal.bounds-receivers-from-in-loop-i
bounds-receivers-from-in-loop-i c = let l = placed (goal.at.bounds-receivers-from-in-loop-i c).In-loop-i in omega arith

-- one pair more: its receiver joins those of its sender
pub loop-i-preserved : goal.loop-i-preserved
loop-i-preserved c =
    let l = placed (goal.at.loop-i-preserved c).In-loop-i in
    one_joined (receivers_join (sheet_of c.args.self.now.sheet)) max_tasks c.loop-i.i c.loop-i.invariant (omega arith) c.with.ensures (search rules) (search rules)

pub returns : goal.returns
returns c =
    let n = pairs_are c.args.self.now.sheet.viewed in
    let e : c.loop-i.i ≡ (sheet_of c.args.self.now.sheet).pairs = omega arith in
    rw e at c.loop-i.invariant
