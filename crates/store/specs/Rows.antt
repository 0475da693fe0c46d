-- A row of numbers of 16 bits, as bytes. Assumes nothing.
use Rattle.std.specs.Prelude.{List, ℕ, length, get_or}
use Rattle.model.specs.Folds.{flat_map_below}
use Rattle.model.specs.Bytes.{bytes_of}

-- the numbers one behind the other, two bytes each
abbrev pub row_bytes : List ℕ → List ℕ
row_bytes xs = flat_map_below (length xs) (λ i. bytes_of 2 (get_or xs i 0))
