-- The table of costs to go while it is filled, list after list (01, Working). Assumes nothing.
use Rattle.std.specs.Prelude.{◌≡◌, true, cond, ◌&&◌, List, ℕ, ◌+◌, ◌-◌, ◌*◌, ◌/◌, ◌%◌, ◌^◌, ◌≤◌, ◌<◌, ltb, length, get_or, replicate}
use Rattle.model.specs.Folds.{map_below}
use Rattle.model.specs.Bytes.{overwrite}
use Rattle.model.specs.Sheet.{Sheet}
use Rattle.model.specs.Orders.{pairs_allow}
use Rattle.model.specs.Plans.{cost_to_go}
use Rattle.model.specs.Planning.{cells_needed}
use Rattle.model.specs.SheetLayout.{max_tasks, max_doors, max_points}

-- ---- the cells

-- cell i, which held x, once the lists below k are done
unfoldable pub cell_below : Sheet → ℕ → ℕ → ℕ → ℕ
cell_below S k i x = cond (ltb (i / S.points) k && pairs_allow S (i / S.points)) (cost_to_go S (i / S.points) (i % S.points)) x

-- every cell once the lists below k are done; with all lists done these are `cells_after`
unfoldable pub cells_below : Sheet → ℕ → List ℕ → List ℕ
cells_below S k cells = map_below (length cells) (λ i. cell_below S k i (get_or cells i 0))

-- the cells show the cost to go of every list below k that the pairs allow, from every point
abbrev pub Shown : Sheet → ℕ → List ℕ → Type 0
Shown S k cells = (K p : ℕ) → K < k → pairs_allow S K ≡ true → p < S.points → get_or cells (K * S.points + p) 0 ≡ cost_to_go S K p

-- the end costs, the row of the empty list, are written in cells that are enough
pub record Begun (S : Sheet) (cells : List ℕ) : Type 0 where
  pub room : cells_needed S ≤ length cells
  pub ends : cells ≡ cells_below S 1 cells

-- ---- where the rests stand

-- with P points, how far the cell of the rest behind each of n doors stands before the row of the list: that list lacks the door's task
unfoldable pub backs_of : ℕ → ℕ → List ℕ → List ℕ → List ℕ
backs_of P n tasks departs = overwrite (map_below n (λ d. P * 2 ^ get_or tasks d 0 - get_or departs d 0)) (replicate max_doors 0)

-- what that asks: places for the doors, and tasks and points of a sheet
pub record Backable (P n : ℕ) (tasks departs : List ℕ) : Type 0 where
  pub points : P ≤ max_points
  pub doors : n ≤ max_doors
  pub task : (d : ℕ) → d < n → get_or tasks d 0 < max_tasks
  pub depart : (d : ℕ) → d < n → get_or departs d 0 < P

-- the same of a sheet, whose doors all have slot 0
pub record TableRests (S : Sheet) (slots backs : List ℕ) : Type 0 where
  pub slot : (d : ℕ) → d < S.doors → get_or slots d 0 ≡ 0
  pub back : (d : ℕ) → d < S.doors → get_or backs d 0 ≡ S.points * 2 ^ S.task d - S.depart d
