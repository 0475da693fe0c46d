-- Leasts that stand in floats, one for each point, and the column of distances that they are lowered by. Assumes nothing.
use Rattle.std.specs.Prelude.{◌≡◌, List, ℕ, ◌+◌, ◌*◌, ◌^◌, ◌<◌, length, get_or, Float}
use Rattle.std.specs.Float.{nan}
use Rattle.minimum.specs.Floats.{Holds}
use Rattle.kernel_row.specs.Leasts.{no_cost}

-- f 0, f 1, .. below n stand in the floats
abbrev pub Held : (ℕ → ℕ) → ℕ → List Float → Type 0
Held f n xs = (p : ℕ) → p < n → Holds (get_or xs p nan) (f p)

-- what lowering by a door asks: the distances to where it arrives from each of n points, and the part of its cost that does not hang on the point
pub record Column (n : ℕ) (column : List ℕ) (load part : ℕ) : Type 0 where
  pub size : length column ≡ n
  pub wide : (p : ℕ) → p < n → get_or column p 0 < 2 ^ 32
  pub fits : (p : ℕ) → p < n → get_or column p 0 * load + part < no_cost
