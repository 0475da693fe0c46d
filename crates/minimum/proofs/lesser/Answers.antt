-- The float that is less holds the lesser number. Assumes nothing.
use Rattle.model.proofs.Basics.{refl}
use Rattle.minimum.proofs.Patterns.{lesser_holds}
use Rattle.minimum.proofs.lesser.Goals as goal

pub returns-then-b-a : goal.returns-then-b-a
returns-then-b-a c m n h k =
    lesser_holds (rw c.if-b-a.true refl) h k

pub returns-else-b-a : goal.returns-else-b-a
returns-else-b-a c m n h k =
    lesser_holds (rw c.if-b-a.false refl) h k
