-- The least over gathered doors: the cost from a point through each of them, and what a row of the table asks (01, Working; 000, (4.7)). Assumes nothing.
use Rattle.std.specs.Prelude.{List, ℕ, zero, suc, ◌+◌, ◌*◌, ◌^◌, ◌≤◌, ◌<◌, min, length, get_or}
use Rattle.model.specs.SheetLayout.{max_points, max_doors}
use Rattle.kernel_sheet.specs.declared.Way.{Way}

-- more than any cost; what stands where there is no door
abbrev pub no_cost : ℕ
no_cost = 2 ^ 60

-- the least of f i over the i below n
abbrev pub least_below : ℕ → (ℕ → ℕ) → ℕ
least_below zero f = no_cost
least_below (suc n) f = min (least_below n f) (f n)

-- in an array of columns, the entry of point p in the column that begins there
abbrev pub entry_at : List ℕ → ℕ → ℕ → ℕ
entry_at columns begin p = get_or columns (begin + p) 0

-- the i-th of the doors that were gathered; all 0 beyond them
abbrev pub nth_way : List Way → ℕ → Way
nth_way ways i = get_or ways i (record { begin = 0; part = 0 })

-- from point p through the i-th of the gathered doors: the distance times the load, and the part of its cost that does not hang on the point
unfoldable pub through_gathered : List ℕ → ℕ → List Way → ℕ → ℕ → ℕ
through_gathered columns load ways p i = entry_at columns (nth_way ways i).begin p * load + (nth_way ways i).part

-- the least over all that were gathered
unfoldable pub least_from : List ℕ → ℕ → List Way → ℕ → ℕ
least_from columns load ways p = least_below (length ways) (through_gathered columns load ways p)

-- what a cost from each of P points through the gathered doors asks: their columns, distances of 32 bits, and sums that are costs
pub record Gathered (columns : List ℕ) (P load : ℕ) (ways : List Way) : Type 0 where
  pub doors : length ways ≤ max_doors
  pub column : (i : ℕ) → i < length ways → (nth_way ways i).begin + P ≤ length columns
  pub wide : (p i : ℕ) → p < P → i < length ways → entry_at columns (nth_way ways i).begin p < 2 ^ 32
  pub fits : (p i : ℕ) → p < P → i < length ways → through_gathered columns load ways p i < no_cost

-- and what a row of P cells asks: no more points than there is room for
pub record Rowable (columns : List ℕ) (P load : ℕ) (ways : List Way) : Type 0 where
  pub few : P ≤ max_points
  pub gathered : Gathered columns P load ways
