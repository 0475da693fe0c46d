-- The numbers, as the definition lists them. Assumes nothing.
use Rattle.model.proofs.Basics.{refl}
use Rattle.model.specs.{line_at, plan_start_at, plan_doors_at, plan_cost_at}
use Rattle.layout.specs.Heads.{head_numbers}
use Rattle.layout.proofs.head.Goals as goal

pub returns : goal.returns
unfolding head_numbers plan_cost_at plan_doors_at plan_start_at line_at
returns c =
    refl
