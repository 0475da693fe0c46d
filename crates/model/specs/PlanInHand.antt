-- The plan in hand: its doors, their count and its cost, built one step at a time (01, Working). Assumes nothing.
use Rattle.std.specs.Prelude.{cond, List, [], ◌∷◌, ℕ, suc, ltb, set}
use Rattle.model.specs.Folds.{map_below}
use Rattle.model.specs.PlanLayout.{max_plan_doors, doors_in, cost_in}

-- the plan in hand of document 01: an array of twelve doors, how many of them are the plan's, and its cost (01, Working)
pub record PlanInHand : Type 0 where
  pub doors : List ℕ
  pub count : ℕ
  pub cost : ℕ

-- a plan of that cost with no door yet (01, Working)
unfoldable pub no_doors : ℕ → PlanInHand
no_doors cost = record { doors = map_below max_plan_doors (λ i. 0); count = 0; cost = cost }

-- the plan with that door added; a full plan stays as it is (01, Working and The shape of each place)
unfoldable pub with_door : PlanInHand → ℕ → PlanInHand
with_door x d = cond (ltb x.count max_plan_doors) (record { doors = set x.doors x.count d; count = suc x.count; cost = x.cost }) x

-- and with those doors, one behind the other (01, Working)
abbrev pub with_doors : PlanInHand → List ℕ → PlanInHand
with_doors x [] = x
with_doors x (d ∷ ds) = with_doors (with_door x d) ds

-- the plan of n doors that the bytes hold (01, Layout of a plan)
unfoldable pub in_hand : ℕ → List ℕ → PlanInHand
in_hand n q = with_doors (no_doors (cost_in n q)) (doors_in n q)
