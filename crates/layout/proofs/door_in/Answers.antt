-- The door is read where the definition reads it. Assumes nothing.
use Rattle.model.specs.{line_at, door_in, plan_doors_at, plan_start_at}
use Rattle.layout.proofs.door_in.Goals as goal

pub returns : goal.returns
unfolding door_in plan_doors_at plan_start_at line_at
returns c =
    c.read_u16.ensures
