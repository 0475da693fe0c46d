-- Each turn stores the last digit of what is left in front of those found, until nothing is left; the digits are then written as a text. Assumes nothing.
use Rattle.model.proofs.Basics.{refl, arith, length-set}
use Rattle.decimal.proofs.Spelling.{none_spelt, one_spelt, all_spelt}
use Rattle.decimal.proofs.put_number.Goals as goal

pub loop-rest-init : goal.loop-rest-init
loop-rest-init c =
    (none_spelt _ _ (omega arith) (omega arith), refl)

-- one digit more is in the array
pub loop-rest-preserved : goal.loop-rest-preserved
loop-rest-preserved c =
    let inv = c.loop-rest.invariant in (one_spelt inv.0 (omega arith), rw length-set inv.1)

pub slice_bounds-put_text-end : goal.slice_bounds-put_text-end
slice_bounds-put_text-end c =
    rw length-set (omega arith)

pub returns : goal.returns
returns c =
    let inv = c.loop-rest.invariant in
    rw (all_spelt inv.0 20 inv.1 (omega arith)) at c.put_text.ensures
