-- The cheapest completion from a point with a list open, as a plan in hand (01, Working; 000, (4.13) to (4.16)). Assumes nothing.
use Rattle.std.specs.Prelude.{◌≡◌, true, List, [], ℕ, ◌+◌, ◌*◌, ◌^◌, ◌≤◌, ◌<◌, length, get_or}
use Rattle.std.proofs.Math.Option
use Rattle.model.specs.Sheet.{Sheet}
use Rattle.model.specs.Orders.{pairs_allow}
use Rattle.model.specs.Plans.{cost_to_go, cheapest_completion}
use Rattle.model.specs.PlanInHand.{PlanInHand, no_doors, with_doors}
use Rattle.kernel_sheet.specs.declared.Numbers.{Numbers}
use Rattle.kernel_sheet.specs.declared.Way.{Way}
use Rattle.kernel_sheet.specs.Prepared.{Prepared}
use Rattle.kernel_row.specs.Leasts.{entry_at}
use Rattle.kernel_table.specs.Cells.{Shown}

-- from point p by a door that was gathered: the distance to where it arrives times the load, and the part of its cost that does not hang on the point
abbrev pub cost_by : List ℕ → ℕ → ℕ → Way → ℕ
cost_by columns load p way = entry_at columns way.begin p * load + way.part

-- the doors of the cheapest completion of K from point p; there is one wherever 14, 15 and 17 do not apply (`some_completion`)
unfoldable pub best_doors : Sheet → ℕ → ℕ → List ℕ
best_doors S K p = Option.get_or (cheapest_completion S K p) []

-- the first of them
unfoldable pub next_door : Sheet → ℕ → ℕ → ℕ
next_door S K p = get_or (best_doors S K p) 0 0

-- the plan in hand: the cost to go, and these doors one behind the other
unfoldable pub completed : Sheet → ℕ → ℕ → PlanInHand
completed S K p = with_doors (no_doors (cost_to_go S K p)) (best_doors S K p)

-- what completing asks: numbers of some sheet, a list that the pairs allow, a point of the sheet, and cells that show the costs to go up to that list
pub record Completable (S : Sheet) (x : Numbers) (columns : List ℕ) (K p : ℕ) (cells : List ℕ) : Type 0 where
  pub prepared : Prepared S x columns
  pub list : K < 2 ^ S.tasks
  pub allowed : pairs_allow S K ≡ true
  pub point : p < S.points
  pub room : (K + 1) * S.points ≤ length cells
  pub known : Shown S (K + 1) cells
