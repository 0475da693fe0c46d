-- The float is no NaN, and its pattern is the number with 2 ^ 60 added. Assumes nothing.
use Rattle.model.proofs.Basics.{arith}
use Rattle.minimum.proofs.Patterns.{holds_number, pattern_is}
use Rattle.minimum.proofs.number_of.Goals as goal

pub float_to_bits-result : goal.float_to_bits-result
float_to_bits-result c =
    rw (holds_number c.requires.1) tt

pub overflow_sub-result : goal.overflow_sub-result
overflow_sub-result c =
    rw (pattern_is c.requires.1) (omega arith)

pub returns : goal.returns
returns c n h =
    rw (pattern_is h) (omega arith)
