-- The head of a plan, as numbers of 16 bits. Assumes nothing.
use Rattle.std.specs.Prelude.{List, [], ◌∷◌, ℕ, ◌%◌, ◌^◌}
use Rattle.model.specs.PlanLayout.{plan_kind, plan_start_at, plan_doors_at, plan_cost_at}

-- kind and zero, then the three contents lines: body number, offset and number of entries of start, doors and cost (01, Layout of a plan)
unfoldable pub head_numbers : ℕ → List ℕ
head_numbers n = plan_kind ∷ 0 ∷ 1 ∷ plan_start_at ∷ 1 ∷ 2 ∷ plan_doors_at ∷ n ∷ 3 ∷ plan_cost_at n % 2 ^ 16 ∷ 1 ∷ []

-- how many there are
abbrev pub head_count : ℕ
head_count = 11
