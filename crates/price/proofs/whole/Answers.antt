-- The part of the one layer or of the other, by the parity. Assumes nothing.
use Rattle.model.proofs.Basics.{sym, length-take-le, ne_eqb}
use Rattle.price.proofs.whole.Goals as goal

pub slice_bounds-result-end : goal.slice_bounds-result-end
slice_bounds-result-end c =
    sym (length-take-le _ _ c.requires.0)

pub slice_bounds-result-end-else-n-eq0 : goal.slice_bounds-result-end-else-n-eq0
slice_bounds-result-end-else-n-eq0 c =
    sym (length-take-le _ _ c.requires.1)

-- of the even one
pub returns-then-n-eq0 : goal.returns-then-n-eq0
returns-then-n-eq0 c =
    rw c.if-n-eq0.true

-- of the odd one
pub returns-else-n-eq0 : goal.returns-else-n-eq0
returns-else-n-eq0 c =
    rw (ne_eqb _ _ c.if-n-eq0.false)
