-- The array has the open lists of the doors from i on, and the mask the one that is open there. Assumes nothing.
use Rattle.model.proofs.Basics.{refl, ◌-◌, arith}
use Rattle.route.proofs.Listing.{none_listed, next_listed}
use Rattle.route.proofs.open_lists.Goals.{After-with-later}
use Rattle.route.proofs.open_lists.Goals as goal

pub loop-i-init : goal.loop-i-init
loop-i-init c =
    none_listed _ _ c.requires

-- one door more towards the first
pub loop-i-preserved : goal.loop-i-preserved
loop-i-preserved c =
    next_listed c.loop-i.invariant c.requires (c.loop-i.i - 1) (omega arith) c.with-later.ensures refl
