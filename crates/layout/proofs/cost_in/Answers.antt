-- The cost is read where the definition reads it. Assumes nothing.
use Rattle.model.specs.{line_at, cost_in, plan_cost_at, plan_doors_at, plan_start_at}
use Rattle.layout.proofs.cost_in.Goals as goal

pub returns : goal.returns
unfolding cost_in plan_cost_at plan_doors_at plan_start_at line_at
returns c =
    c.read_u64.ensures
