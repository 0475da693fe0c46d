-- From place i on, the array has where each task is first done: going down, an earlier place takes a later one's. Assumes nothing.
use Rattle.model.proofs.Basics.{refl, ◌-◌, arith}
use Rattle.checks.proofs.Placing.{none_placed, one_placed}
use Rattle.checks.proofs.places.Goals as goal

pub loop-i-init : goal.loop-i-init
loop-i-init c =
    none_placed _

-- one place more towards the front
pub loop-i-preserved : goal.loop-i-preserved
loop-i-preserved c =
    one_placed c.loop-i.invariant c.requires (c.loop-i.i - 1) (omega arith) refl
