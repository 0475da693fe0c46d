-- Below the width the shifted bit is the member, and from it on no task is in the list. Assumes nothing.
use Rattle.model.proofs.Basics.{ap, ℕ, arith, eqb}
use Rattle.model.specs.{mask_bits}
use Rattle.tasklist.proofs.Shifts.{bit_shifted, not_listed}
use Rattle.tasklist.proofs.contains.Goals as goal

-- the mask has a bit for the task
pub returns-then-j-lt-MASK_BITS : goal.returns-then-j-lt-MASK_BITS
returns-then-j-lt-MASK_BITS c =
    ap (λ (b : ℕ). eqb b 1) (bit_shifted _ _)

-- it has none
pub returns-else-j-lt-MASK_BITS : goal.returns-else-j-lt-MASK_BITS
returns-else-j-lt-MASK_BITS c =
    not_listed mask_bits _ _ (omega arith) (omega arith)
