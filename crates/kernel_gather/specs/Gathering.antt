-- Gathering the doors of a set: where the column of each begins, and what it costs but for the way to it (01, Working; 000, (4.7)). Assumes nothing.
use Rattle.std.specs.Prelude.{◌≡◌, true, List, ℕ, ◌+◌, ◌-◌, ◌^◌, ◌≤◌, ◌<◌, length, get_or}
use Rattle.model.specs.Folds.{passing_below}
use Rattle.model.specs.TaskList.{member}
use Rattle.model.specs.SheetLayout.{max_doors}
use Rattle.kernel_sheet.specs.declared.Way.{Way}

-- the doors of a set, by number: bit d of the set stands for door d
unfoldable pub doors_in : ℕ → List ℕ
doors_in set = passing_below max_doors (member set)

-- which cell shows the cost of the rest behind door d: that so far back from the end that the door's slot has. So the rests may stand in any rows, and neighbouring points
-- any number of cells apart
unfoldable pub rest_at : List ℕ → List ℕ → List ℕ → ℕ → ℕ
rest_at slots backs ends d = get_or ends (get_or slots d 0) 0 - get_or backs d 0

-- the part of its cost that does not hang on the point: the sum of its work and charges, and the cost of the rest
unfoldable pub part_at : List ℕ → List ℕ → List ℕ → List ℕ → List ℕ → ℕ → ℕ
part_at sums slots backs ends cells d = get_or sums d 0 + get_or cells (rest_at slots backs ends d) 0

-- the door as it is gathered: where its column begins, and that part
unfoldable pub way_at : List ℕ → List ℕ → List ℕ → List ℕ → List ℕ → List ℕ → ℕ → Way
way_at columns sums slots backs ends cells d = record { begin = get_or columns d 0; part = part_at sums slots backs ends cells d }

-- what gathering asks: of each door of the set, the end and the cell are there, and the part fits
pub record Gatherable (set : ℕ) (sums slots backs ends cells : List ℕ) : Type 0 where
  pub slot : (d : ℕ) → member set d ≡ true → get_or slots d 0 < length ends
  pub back : (d : ℕ) → member set d ≡ true → get_or backs d 0 ≤ get_or ends (get_or slots d 0) 0
  pub rest : (d : ℕ) → member set d ≡ true → rest_at slots backs ends d < length cells
  pub fits : (d : ℕ) → member set d ≡ true → part_at sums slots backs ends cells d < 2 ^ 64
