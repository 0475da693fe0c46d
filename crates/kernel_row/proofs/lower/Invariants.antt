-- The leasts below p are lowered by both doors, one after the other, and the others are as they were. Assumes nothing.
use Rattle.model.proofs.Basics.{◌+◌, ◌*◌, min, get_or}
use Rattle.kernel_row.proofs.Lowering.{LoweredBelow}
use Rattle.kernel_row.proofs.lower.Given as goal

abbrev pub invariant-loop-p : goal.invariant-loop-p
invariant-loop-p l = LoweredBelow (λ q n. min (min n (get_or l.first q 0 * l.load + l.first_part)) (get_or l.second q 0 * l.load + l.second_part)) l.initial.leasts l.leasts l.p
