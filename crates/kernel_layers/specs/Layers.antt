-- The two layers of costs to go (02, Req 01; 000, Note 4.1): lists of even size have their rows in one and lists of odd size in the other, each at its rank.
-- Assumes nothing.
-- A layer goes by its parity: 0 is the even one, 1 the odd one.
use Rattle.std.specs.Prelude.{◌≡◌, ◌⊎◌, true, List, ℕ, ◌+◌, ◌-◌, ◌*◌, ◌/◌, ◌%◌, ◌^◌, ◌≤◌, ◌<◌, length, get_or, replicate}
use Rattle.model.specs.TaskList.{full, size}
use Rattle.model.specs.Sheet.{Sheet}
use Rattle.model.specs.Orders.{pairs_allow}
use Rattle.model.specs.Plans.{cost_to_go}
use Rattle.model.specs.Folds.{map_below}
use Rattle.model.specs.Bytes.{overwrite, overwrite_at}
use Rattle.model.specs.SheetLayout.{max_doors}
use Rattle.rank.specs.Binomials.{most_lists}
use Rattle.rank.specs.Ranks.{rank}

-- the cells that each layer needs: B times P
unfoldable pub layer_cells : Sheet → ℕ
layer_cells S = most_lists S.tasks * S.points

-- ---- what the layers hold once they are filled

-- y is the cost to go from point i % P of a list that the pairs allow, of rank i / P and of this parity of size
pub record CostAtRank (S : Sheet) (parity i y : ℕ) : Type 0 where
  pub list : ℕ
  pub listed : list < 2 ^ S.tasks
  pub allowed : pairs_allow S list ≡ true
  pub of_layer : size S.tasks list % 2 ≡ parity
  pub ranked : rank S.tasks list ≡ i / S.points
  pub is : y ≡ cost_to_go S list (i % S.points)

-- a cell that is left open, cell i, which held x, holds y: it is as lent, or such a cost to go
abbrev pub OpenCell : Sheet → ℕ → ℕ → ℕ → ℕ → Type 0
OpenCell S parity i x y = (y ≡ x) ⊎ CostAtRank S parity i y

pub record LayerFilled (S : Sheet) (parity : ℕ) (before after : List ℕ) : Type 0 where
  -- its length stays
  pub as_many : length after ≡ length before
  -- cells from B times P on stay
  pub beyond : (i : ℕ) → layer_cells S ≤ i → get_or after i 0 ≡ get_or before i 0
  -- the first P cells of the layer of N's parity are the cost to go with the full list open from each point
  pub whole_round : S.tasks % 2 ≡ parity → (p : ℕ) → p < S.points → get_or after p 0 ≡ cost_to_go S (full S.tasks) p
  -- the others below B times P are open
  pub others : (i : ℕ) → i < layer_cells S → OpenCell S parity i (get_or before i 0) (get_or after i 0)

-- ---- while they are filled

-- a layer with the row of K, written at its rank
unfoldable pub with_row : Sheet → ℕ → List ℕ → List ℕ
with_row S K layer = overwrite_at (rank S.tasks K * S.points) (map_below S.points (cost_to_go S K)) layer

-- the layer shows the cost to go of every list of m tasks below k that the pairs allow, from every point
pub record ShowsBelow (S : Sheet) (m k : ℕ) (layer : List ℕ) : Type 0 where
  pub shown : (K p : ℕ) → K < k → K < 2 ^ S.tasks → size S.tasks K ≡ m → pairs_allow S K ≡ true → p < S.points
      → get_or layer (rank S.tasks K * S.points + p) 0 ≡ cost_to_go S K p

-- of every list of m tasks
abbrev pub Shows : Sheet → ℕ → List ℕ → Type 0
Shows S m layer = ShowsBelow S m (2 ^ S.tasks) layer

-- of every list that has one task less than K, as K without a task has
abbrev pub ShowsRests : Sheet → ℕ → List ℕ → Type 0
ShowsRests S K layer = Shows S (size S.tasks K - 1) layer

-- every cell is as lent, or such a cost to go of this layer
pub record Kept (S : Sheet) (parity : ℕ) (before after : List ℕ) : Type 0 where
  pub as_many : length after ≡ length before
  pub cells : (i : ℕ) → OpenCell S parity i (get_or before i 0) (get_or after i 0)

-- the layer of a parity once the lists of up to m tasks are done: it shows those of m tasks where that is its parity
pub record Half (S : Sheet) (parity m : ℕ) (lent layer : List ℕ) : Type 0 where
  pub shown : m % 2 ≡ parity → Shows S m layer
  pub kept : Kept S parity lent layer

-- ---- where the rests stand

-- with P points, how far the cell of the rest behind each of n doors stands before the end of its row
unfoldable pub backs_of : ℕ → ℕ → List ℕ → List ℕ
backs_of P n departs = overwrite (map_below n (λ d. P - get_or departs d 0)) (replicate max_doors 0)

-- what that asks: places for the doors, and points of a sheet
pub record Backable (P n : ℕ) (departs : List ℕ) : Type 0 where
  pub doors : n ≤ max_doors
  pub depart : (d : ℕ) → d < n → get_or departs d 0 < P

-- the same of a sheet, whose doors each have the slot of their task
pub record LayerRests (S : Sheet) (slots backs : List ℕ) : Type 0 where
  pub slot : (d : ℕ) → d < S.doors → get_or slots d 0 ≡ S.task d
  pub back : (d : ℕ) → d < S.doors → get_or backs d 0 ≡ S.points - S.depart d

-- ---- what filling asks: room in both layers

pub record Roomy (S : Sheet) (below here : List ℕ) : Type 0 where
  pub room_below : layer_cells S ≤ length below
  pub room_here : layer_cells S ≤ length here
