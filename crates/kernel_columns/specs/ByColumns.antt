-- The distances of a sheet by columns. Assumes nothing.
use Rattle.std.specs.Prelude.{List, ℕ, ◌*◌, ◌/◌, ◌%◌}
use Rattle.model.specs.Folds.{map_below}
use Rattle.model.specs.Sheet.{Sheet}

-- the distances to point 0 from every point, then those to point 1, and on: entry q * P + p is the distance from p to q
unfoldable pub columns_of : Sheet → List ℕ
columns_of S = map_below (S.points * S.points) (λ i. S.distance (i % S.points) (i / S.points))
