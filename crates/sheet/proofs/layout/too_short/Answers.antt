-- The head ends at byte 46. Assumes nothing.
use Rattle.model.proofs.Basics.{refl}
use Rattle.model.specs.{line_at, too_short}
use Rattle.sheet.proofs.layout.too_short.Goals as goal

pub returns : goal.returns
unfolding line_at too_short
returns c = refl
