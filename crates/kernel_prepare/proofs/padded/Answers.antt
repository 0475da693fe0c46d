-- The entries before i have their elements. Assumes nothing.
use Rattle.model.proofs.Basics.{arith}
use Rattle.kernel_prepare.proofs.Padding.{none_padded, one_padded, all_padded}
use Rattle.kernel_prepare.proofs.padded.Goals as goal

pub loop-i-init : goal.loop-i-init
loop-i-init g c f h = none_padded c.requires.fits

pub loop-i-preserved : goal.loop-i-preserved
loop-i-preserved g c f h = one_padded (c.loop-i.invariant f h) c.loop-i-test.true (h _ _ c.loop-i-test.true c.element.ensures)

pub returns : goal.returns
returns g c f h = all_padded (c.loop-i.invariant f h) (omega arith)
