-- Task by task the union of what those of the list have. Assumes nothing.
use Rattle.model.proofs.Basics.{arith}
use Rattle.kernel_list.proofs.Unions.{all_joined}
use Rattle.kernel_list.proofs.waiting.Goals as goal

pub returns : goal.returns
returns c =
    let l = c.loop-t in all_joined _ _ l.t l.invariant (omega (arith, l.auto.t-end, c.loop-t-test.false))
