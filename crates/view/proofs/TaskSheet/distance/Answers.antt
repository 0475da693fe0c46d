-- The only field of the last body, at the entry that row and column give. Assumes nothing.
use Rattle.model.proofs.Basics.{◌+◌, ◌*◌, ◌≤◌, arith, lit<, length}
use Rattle.number.proofs.Bytes.{le_number_2}
use Rattle.view.proofs.Within.{distance_within, distance_is}
use Rattle.view.proofs.TaskSheet.distance.Goals.{Start}
use Rattle.view.proofs.TaskSheet.distance.Goals as goal

held : (c : Start) →
    let v = c.args.self.now.view in
    v.at.distances + (c.args.p * v.points + c.args.q) * 2 + 2 ≤ length c.args.self.now.bytes.now
held c =
    distance_within c.args.self.now.viewed _ _ c.requires.0 c.requires.1

pub overflow_mul-e : goal.overflow_mul-e
overflow_mul-e c =
    omega (arith, held (goal.at.overflow_mul-e c).Start)

pub overflow_add-e : goal.overflow_add-e
overflow_add-e c =
    omega (arith, held (goal.at.overflow_add-e c).Start)

pub overflow_mul-e-2 : goal.overflow_mul-e-2
overflow_mul-e-2 c =
    omega (arith, held (goal.at.overflow_mul-e-2 c).Start)

pub overflow_add-at : goal.overflow_add-at
overflow_add-at c =
    omega (arith, held (goal.at.overflow_add-at c).Start)

pub bytes_at-requires : goal.bytes_at-requires
bytes_at-requires c =
    (lit< tt, held (goal.at.bytes_at-requires c).Start)

pub returns : goal.returns
returns c =
    distance_is c.args.self.now.viewed _ _ c.requires.0 c.requires.1 _ (omega (arith, le_number_2 _ _ c.bytes_at.ensures c.from_le_bytes.ensures))
