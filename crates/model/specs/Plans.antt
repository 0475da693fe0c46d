-- Solutions, the cheapest of them, and the cost to go, over orders and doors and not over layers such as (4.7) (01, Cost of a round and Working;
-- 000, (2.4) to (2.10)). Assumes nothing.
use Rattle.std.specs.Prelude.{Bool, ◌&&◌, List, map, ℕ, ltb}
use Rattle.std.proofs.Math.Option.{Option}
use Rattle.model.specs.Folds.{flat_map_below, lists_below, all_in, keep_if, first_least, least}
use Rattle.model.specs.TaskList.{size}
use Rattle.model.specs.Sheet.{Sheet}
use Rattle.model.specs.Orders.{is_admissible, is_order_within}
use Rattle.model.specs.Cost.{cost}

-- ---- the whole round

-- a plan: the number of a start, and the doors as driven (01, Cost of a round; 000, (2.4))
pub record Plan : Type 0 where
  pub start : ℕ
  pub doors : List ℕ

-- the doors are in the sheet (01, Cost of a round; 000, (2.5))
unfoldable pub in_sheet : Sheet → List ℕ → Bool
in_sheet S ds = all_in (λ d. ltb d S.doors) ds

-- a solution: start and doors are in the sheet, and the tasks as driven are an order of the full list that keeps every pair (01, Cost of a round;
-- 000, (2.4) to (2.10))
unfoldable pub is_solution : Sheet → ℕ → List ℕ → Bool
is_solution S s ds = ltb s S.starts && in_sheet S ds && is_admissible S (map S.task ds)

-- the cost of the round from start s through the doors (01, Cost of a round; 000, (2.12))
unfoldable pub round_cost : Sheet → ℕ → List ℕ → ℕ
round_cost S s ds = cost S (S.start_point s) ds

-- the cost of a plan (01, Cost of a round)
unfoldable pub plan_cost : Sheet → Plan → ℕ
plan_cost S x = round_cost S x.start x.doors

-- all plans with as many doors as there are tasks, ranked by start number, then door d1, d2 and on (01, Working)
unfoldable pub plans : Sheet → List Plan
plans S = flat_map_below S.starts (λ s. map (λ (ds : List ℕ). record { start = s; doors = ds }) (lists_below S.doors S.tasks))

-- all solutions, in the same rank (01, Working; 000, (2.10))
unfoldable pub solutions : Sheet → List Plan
solutions S = keep_if (λ x. is_solution S x.start x.doors) (plans S)

-- the first of the solutions of least cost (01, Working; 000, (2.15))
unfoldable pub cheapest : Sheet → Option Plan
cheapest S = first_least (plan_cost S) (solutions S)

-- ---- what is left of a round

-- a completion of K: doors of the sheet whose tasks, as driven, are an order of K that keeps the pairs within K (01, Cost of a round)
unfoldable pub is_completion : Sheet → ℕ → List ℕ → Bool
is_completion S K ds = in_sheet S ds && is_order_within S K (map S.task ds)

-- all completions of K, ranked by door d1, d2 and on (01, Cost of a round and Working)
unfoldable pub completions : Sheet → ℕ → List (List ℕ)
completions S K = keep_if (is_completion S K) (lists_below S.doors (size S.tasks K))

-- the cost to go, the cost to finish of document 01: the least cost of finishing from point p with K open (01, Cost of a round).
-- Every list has a completion where 17 does not apply (`has_completion`); where there is none this is 0
unfoldable pub cost_to_go : Sheet → ℕ → ℕ → ℕ
cost_to_go S K p = least (map (cost S p) (completions S K))

-- the first of the completions of least cost from point p (01, Working)
unfoldable pub cheapest_completion : Sheet → ℕ → ℕ → Option (List ℕ)
cheapest_completion S K p = first_least (cost S p) (completions S K)
