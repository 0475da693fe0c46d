-- 32 bits times 16 bits do not wrap in 64. Assumes nothing.
use Rattle.model.proofs.Basics.{◌*◌, ◌≤◌, mul-le-mul_right, arith}
use Rattle.planner.proofs.Sheets.{needed_is}
use Rattle.planner.proofs.cells_needed.Goals as goal

pub overflow_mul-result : goal.overflow_mul-result
overflow_mul-result c =
    let n = c.args.sheet.now.view.points in
    let m : c.lists.result * n ≤ 4294967295 * n = mul-le-mul_right n (omega arith) in
    omega arith

pub returns : goal.returns
returns c =
    needed_is c.args.sheet.now.viewed c.requires c.lists.ensures
