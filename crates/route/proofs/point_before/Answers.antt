-- Behind the first step the van stands where the last door let it go. Assumes nothing.
use Rattle.model.proofs.Basics.{arith}
use Rattle.model.proofs.Theory.Solutions.{door_in_lem}
use Rattle.route.proofs.point_before.Goals as goal

pub depart-requires : goal.depart-requires
depart-requires c =
    door_in_lem _ c.args.doors.now c.requires.0 _ (omega arith)
