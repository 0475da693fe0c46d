-- What is claimed of pricing, in plain facts and as a caller from C sees it, with the words of 02, Req 01, beside each claim. `pricing`, `price_is_plan`, `same_left`,
-- `handed_back`, `layers_left` and `fewer_cells` prove it. Assumes nothing.
-- 02, Req 01: "Price without the plan. Dispatch quotes a round before taking it and needs only the least cost and its first start, in less memory from three tasks on
-- (Note 4.1 of document 000). Two layers of cells are lent: lists of even size go in one, odd in the other. A list's rank is the number of lists of its size with a smaller
-- number. Ranks come from a table of 289 binomials, n and k from 0 to 16. With B the largest number of lists of one size, each layer needs B times P cells. A second call,
-- lent the sheet and the layers, hands back the part of whichever layer holds the full list's row, its first P cells, or an empty part where pricing refuses; after pricing
-- they show the cost to finish the whole round from each point. Cost and start equal the planner's; cells past B times P stay, the layers' other cells are left open, and no
-- answer hangs on what they held before. Refused: 22, either layer too short, tested after all the sheet's own numbers."
use Rattle.std.specs.Prelude.{◌≡◌, ◌⊎◌, ◌↔◌, true, cond, List, [], ◌∷◌, ◌++◌, ℕ, ◌+◌, ◌*◌, ◌/◌, ◌%◌, ◌^◌, ◌≤◌, ◌<◌, eqb, length, get_or, take}
use Rattle.model.specs.Folds.{map_below}
use Rattle.model.specs.TaskList.{full, size}
use Rattle.model.specs.Orders.{pairs_allow}
use Rattle.model.specs.Sheet.{Sheet}
use Rattle.model.specs.Plans.{Plan, plan_cost, cost_to_go}
use Rattle.model.specs.Bytes.{overwrite}
use Rattle.model.specs.Answer.{refused, accepted, status, placed, placed_number}
use Rattle.model.specs.SheetLayout.{decode}
use Rattle.model.specs.Faults.{read_sheet}
use Rattle.model.specs.PlanLayout.{plan_bytes}
use Rattle.model.specs.Planning.{cells_needed, plan_for, plan}
use Rattle.model.specs.Demands.{SheetNumber}
use Rattle.model.specs.Figures.{tasks_stated, points_stated, SheetApplies, sheet_order, AnswersBy}
use Rattle.rank.specs.Binomials.{most_lists}
use Rattle.rank.specs.Ranks.{rank}
use Rattle.kernel_layers.specs.Layers.{layer_cells}
use Rattle.price.specs.Pricing.{Price, price, price_row, row_place, price_cost, price_start, row_layer, row_cells}

-- ---- what the numbers of pricing mean: "each layer needs B times P cells"; "22, either layer too short, tested after all the sheet's own numbers"

-- r applies to the sheet b with layers of so many cells
pub data PricingApplies (b : List ℕ) (even odd r : ℕ) : Type 0 where
  sheet : SheetApplies b r → PricingApplies b even odd r
  -- 22: the even layer, or the odd one, has fewer than B times P cells
  even22 : r ≡ 22 → even < most_lists (tasks_stated b) * points_stated b → PricingApplies b even odd r
  odd22 : r ≡ 22 → odd < most_lists (tasks_stated b) * points_stated b → PricingApplies b even odd r

-- the order in which pricing tests its numbers
abbrev pub pricing_order : List ℕ
pricing_order = sheet_order ++ (22 ∷ [])

-- either layer has fewer than B times P cells
abbrev pub EitherShort : List ℕ → ℕ → ℕ → Type 0
EitherShort b even odd = (even < most_lists (decode b).tasks * (decode b).points) ⊎ (odd < most_lists (decode b).tasks * (decode b).points)

pub record PricingHolds (b : List ℕ) (even odd : ℕ) : Type 0 where
  -- refused with r exactly if r applies and none that is tested before r does, accepted exactly if none applies; and so by what is returned
  pub answers : AnswersBy pricing_order (PricingApplies b even odd) (price b even odd)
  -- 22 exactly if the sheet reads and a layer has fewer than B times P cells; and so by what is returned
  pub gets_22 : (price b even odd ≡ refused 22) ↔ ((status (read_sheet b) ≡ 0) × EitherShort b even odd)
  pub returns_22 : (status (price b even odd) ≡ 22) ↔ ((status (read_sheet b) ≡ 0) × EitherShort b even odd)
  -- 0 exactly if the sheet reads and both have as many
  pub returns_0 : (status (price b even odd) ≡ 0)
      ↔ ((status (read_sheet b) ≡ 0) × (most_lists (decode b).tasks * (decode b).points ≤ even) × (most_lists (decode b).tasks * (decode b).points ≤ odd))
  -- the row call returns what pricing with these layers returns
  pub row_alike : status (row_place b even odd) ≡ status (price b even odd)
  -- and then leaves N's parity in *layer, 0 for the even layer and 1 for the odd one, and P in *cells
  pub row_told : (layer cells : ℕ) → status (row_place b even odd) ≡ 0
      → (placed row_layer (row_place b even odd) layer ≡ (decode b).tasks % 2) × (placed row_cells (row_place b even odd) cells ≡ (decode b).points)
  -- on refusal every place holds what it held before: *cost and *start of pricing, *layer and *cells of the row call
  pub leaves : (cost start : ℕ) → (status (price b even odd) ≡ 0 → ⊥) → (placed price_cost (price b even odd) cost ≡ cost) × (placed price_start (price b even odd) start ≡ start)
  pub row_leaves : (layer cells : ℕ) → (status (row_place b even odd) ≡ 0 → ⊥)
      → (placed row_layer (row_place b even odd) layer ≡ layer) × (placed row_cells (row_place b even odd) cells ≡ cells)

-- ---- pricing is planning: "Cost and start equal the planner's"; "no answer hangs on what they held before", since it is made of the layers' lengths alone

pub record PriceIsPlan (b : List ℕ) (even odd cells room : ℕ) : Type 0 where
  -- where planning answers with a plan, pricing answers, given room, with its cost and its start
  pub priced : (x : Plan) → plan_for b cells room ≡ accepted x → most_lists (decode b).tasks * (decode b).points ≤ even → most_lists (decode b).tasks * (decode b).points ≤ odd
      → price b even odd ≡ accepted (record { cost = plan_cost (decode b) x; start = x.start })
  -- where pricing answers, planning answers, given room, with a plan of that cost and that start
  pub planned : (y : Price) → price b even odd ≡ accepted y → 2 ^ (decode b).tasks * (decode b).points ≤ cells → 32 + 2 * (decode b).tasks ≤ room
      → (x : Plan) × (plan_for b cells room ≡ accepted x) × (plan_cost (decode b) x ≡ y.cost) × (x.start ≡ y.start)
  -- and both refuse a sheet with the same of its own numbers
  pub refused_alike : (r : ℕ) → SheetNumber r → (plan_for b cells room ≡ refused r) ↔ (price b even odd ≡ refused r)

-- by what is returned and left: where planning and pricing return 0, *cost of both is the same, and the plan's bytes have *start of pricing as their start, that cost, and
-- as many doors as there are tasks
abbrev pub SameLeft : List ℕ → List ℕ → List ℕ → ℕ → ℕ → Type 0
SameLeft b cells buffer even odd = (cost start : ℕ) → status (plan b cells buffer).answer ≡ 0 → status (price b even odd) ≡ 0
    → (placed price_cost (price b even odd) cost ≡ placed_number (plan b cells buffer).answer cost)
    × ((doors : List ℕ) × (length doors ≡ (decode b).tasks) × ((plan b cells buffer).bytes
    ≡ overwrite (plan_bytes (decode b).tasks (placed price_start (price b even odd) start) doors (placed price_cost (price b even odd) cost)) buffer))

-- ---- the layers and the row: "lists of even size go in one, odd in the other", at their ranks

-- cell i of the layer of a parity held x and holds y: it is as lent, or the cost to go from point i % P of a list that the pairs allow, of rank i / P and of that parity
abbrev pub LentOrCost : Sheet → ℕ → ℕ → ℕ → ℕ → Type 0
LentOrCost S parity i x y = (y ≡ x)
    ⊎ ((K : ℕ) × (K < 2 ^ S.tasks) × (pairs_allow S K ≡ true) × (size S.tasks K % 2 ≡ parity) × (rank S.tasks K ≡ i / S.points) × (y ≡ cost_to_go S K (i % S.points)))

-- the layer that the row call tells, by what it leaves in *layer, and the front of it that *cells tells
abbrev pub row_told : List ℕ → List ℕ → List ℕ → ℕ → ℕ → List ℕ
row_told b even odd layer cells =
    let place = row_place b (length even) (length odd) in take (placed row_cells place cells) (cond (eqb (placed row_layer place layer) 0) even odd)

-- the row of layers that hold whatever they hold: "hands back the part of whichever layer holds the full list's row, its first P cells, or an empty part where pricing refuses"
pub record RowHandedBack (b even odd : List ℕ) : Type 0 where
  pub handed : (layer cells : ℕ) → status (price b (length even) (length odd)) ≡ 0 → price_row b even odd ≡ row_told b even odd layer cells
  pub empty : (status (price b (length even) (length odd)) ≡ 0 → ⊥) → price_row b even odd ≡ []

pub record LayersLeft (b even odd even' odd' : List ℕ) : Type 0 where
  -- on refusal both layers stay, every cell, and there is no row: "or an empty part where pricing refuses"
  pub left_alone : (status (price b (length even) (length odd)) ≡ 0 → ⊥) → (even' ≡ even) × (odd' ≡ odd) × (price_row b even' odd' ≡ [])
  -- their lengths stay in any case
  pub as_many : (length even' ≡ length even) × (length odd' ≡ length odd)
  -- "cells past B times P stay"
  pub beyond : status (price b (length even) (length odd)) ≡ 0 → (i : ℕ) → most_lists (decode b).tasks * (decode b).points ≤ i
      → (get_or even' i 0 ≡ get_or even i 0) × (get_or odd' i 0 ≡ get_or odd i 0)
  -- "after pricing they show the cost to finish the whole round from each point": the row, as the row call hands it back and as it tells it in C
  pub row_shows : status (price b (length even) (length odd)) ≡ 0
      → price_row b even' odd' ≡ map_below (decode b).points (cost_to_go (decode b) (full (decode b).tasks))
  pub told_shows : (layer cells : ℕ) → status (price b (length even) (length odd)) ≡ 0
      → row_told b even' odd' layer cells ≡ map_below (decode b).points (cost_to_go (decode b) (full (decode b).tasks))
  -- "the layers' other cells are left open": of them this much holds
  pub others : status (price b (length even) (length odd)) ≡ 0 → (i : ℕ) → i < most_lists (decode b).tasks * (decode b).points
      → LentOrCost (decode b) 0 i (get_or even i 0) (get_or even' i 0) × LentOrCost (decode b) 1 i (get_or odd i 0) (get_or odd' i 0)

-- ---- fewer cells: "in less memory from three tasks on"

pub record FewerCells (S : Sheet) : Type 0 where
  -- two layers need fewer cells than planning from three tasks on, and as many for one and two
  pub three_on : 1 ≤ S.points → 3 ≤ S.tasks → 2 * layer_cells S < cells_needed S
  pub one_or_two : (S.tasks ≡ 1) ⊎ (S.tasks ≡ 2) → 2 * layer_cells S ≡ cells_needed S
