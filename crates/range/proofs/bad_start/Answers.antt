-- The start's point is held to the number of points. Assumes nothing.
use Rattle.model.specs.{bad_start}
use Rattle.view.proofs.Counted.{points_are}
use Rattle.range.proofs.bad_start.Goals as goal

pub returns : goal.returns
unfolding bad_start
returns c = rw (c.start_point.ensures, points_are c.args.sheet.now.viewed)
