-- Task by task the union of what those of the list have. Assumes nothing.
use Rattle.model.proofs.Basics.{◌≡◌}
use Rattle.kernel_list.specs.Lists.{union_below}
use Rattle.kernel_list.proofs.waiting.Given as goal

abbrev pub invariant-loop-t : goal.invariant-loop-t
invariant-loop-t l = l.all ≡ union_below l.receivers l.k l.t
