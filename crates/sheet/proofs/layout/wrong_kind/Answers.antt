-- Bytes 0 and 1. Assumes nothing.
use Rattle.model.proofs.Basics.{ap, not, ℕ, eqb}
use Rattle.model.specs.{kind1, layout_of, wrong_kind}
use Rattle.sheet.proofs.layout.wrong_kind.Goals as goal

pub returns : goal.returns
unfolding layout_of kind1 wrong_kind
returns c = ap (λ (x : ℕ). not (eqb x 1)) c.kind.ensures
