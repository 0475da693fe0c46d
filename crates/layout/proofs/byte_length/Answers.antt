-- The places of a plan, by their definitions. Assumes nothing.
use Rattle.model.proofs.Basics.{refl}
use Rattle.model.specs.{line_at, plan_start_at, plan_doors_at, plan_cost_at, plan_length}
use Rattle.layout.proofs.byte_length.Goals as goal

pub returns : goal.returns
unfolding plan_length plan_cost_at plan_doors_at plan_start_at line_at
returns c =
    refl
