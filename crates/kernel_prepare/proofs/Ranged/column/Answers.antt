-- A column begins before 64 times 64. Assumes nothing.
use Rattle.model.proofs.Basics.{ap₂, ◌*◌, ◌≤◌, mul-le-mul, arith}
use Rattle.model.specs.{max_points}
use Rattle.view.proofs.Counted.{points_are}
use Rattle.kernel_prepare.proofs.Ranged.column.Goals as goal

pub overflow_mul-result : goal.overflow_mul-result
overflow_mul-result c =
    let r = c.args.self.now in
    let n : r.sheet.view.points ≤ max_points = rw (points_are r.sheet.viewed) r.counts.points in
    let a : c.arrive.result ≤ max_points = omega (arith, r.counts.points, r.ranges.arrive _ c.requires) in
    omega (arith, mul-le-mul a n)

pub returns : goal.returns
returns c = ap₂ ◌*◌ c.arrive.ensures (points_are c.args.self.now.sheet.viewed)
