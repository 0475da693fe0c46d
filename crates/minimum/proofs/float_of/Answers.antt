-- The sum is below 2 ^ 62, so that it does not wrap and is no pattern of a NaN. Assumes nothing.
use Rattle.model.proofs.Basics.{refl, arith}
use Rattle.minimum.specs.Floats.{float_of}
use Rattle.minimum.proofs.Patterns.{a_pattern}
use Rattle.minimum.proofs.float_of.Goals as goal

pub float_from_bits-result : goal.float_from_bits-result
float_from_bits-result c =
    a_pattern _ (omega (arith, c.requires))

pub returns : goal.returns
unfolding float_of
returns c =
    record { is = refl; small = c.requires }
