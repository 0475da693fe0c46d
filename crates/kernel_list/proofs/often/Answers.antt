-- The count of a masked list is that of its watched tasks. Assumes nothing.
use Rattle.model.proofs.Basics.{arith}
use Rattle.kernel_list.proofs.Charges.{times_is}
use Rattle.kernel_list.proofs.often.Goals as goal

pub returns : goal.returns
returns c =
    let a = c.args in omega (arith, times_is a.watched a.least a.most a.k (omega arith))
