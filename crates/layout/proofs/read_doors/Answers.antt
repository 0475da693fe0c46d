-- The array is filled from the front, with a door while i is below n and with 0 from there on. Assumes nothing.
use Rattle.model.proofs.Basics.{refl, arith, lt-ltb, le-ltb}
use Rattle.model.specs.{door_array}
use Rattle.model.proofs.Tools.Arrays.{none_filled, one_filled, all_filled}
use Rattle.layout.proofs.read_doors.Goals.{then-i-n, else-i-n}
use Rattle.layout.proofs.read_doors.Goals as goal

pub loop-i-init : goal.loop-i-init
loop-i-init c =
    none_filled _ _

-- a door, or 0
pub loop-i-preserved : goal.loop-i-preserved
loop-i-preserved c =
    one_filled c.loop-i.invariant _ _ (omega (arith, c.loop-i.invariant.size))
    (elim c.if-i-n.branch [ then-i-n w ↦ rw (w.doors-is, lt-ltb _ _ w.if-i-n.true) w.door_in.ensures | else-i-n w ↦ rw (w.doors-is, le-ltb _ _ w.if-i-n.false) ])
    refl

pub returns : goal.returns
unfolding door_array
returns c =
    all_filled c.loop-i.invariant (omega (arith, c.loop-i.invariant.size))
