-- Numbers that stand in floats. Assumes nothing.
use Rattle.std.specs.Prelude.{◌≡◌, ℕ, ◌+◌, ◌^◌, ◌<◌, Float}
use Rattle.std.specs.Float.{binary64}
use Rattle.std.specs.Float.Ieee.{of_bits}

-- the float that n stands in: the one whose pattern is n with 2 ^ 60 added, so that it is a normal one
unfoldable pub float_of : ℕ → Float
float_of n = of_bits binary64 (n + 2 ^ 60)

-- n stands in x
pub record Holds (x : Float) (n : ℕ) : Type 0 where
  pub is : x ≡ float_of n
  pub small : n < 2 ^ 61
