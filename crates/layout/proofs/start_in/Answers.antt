-- The start is read where the definition reads it. Assumes nothing.
use Rattle.model.specs.{line_at, start_in, plan_start_at}
use Rattle.layout.proofs.start_in.Goals as goal

pub returns : goal.returns
unfolding start_in plan_start_at line_at
returns c =
    c.read_u16.ensures
