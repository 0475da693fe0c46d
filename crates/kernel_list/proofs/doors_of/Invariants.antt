-- Task after task from the lowest the union of what those of the list have. Assumes nothing.
use Rattle.model.proofs.Basics.{◌≡◌, ℕ}
use Rattle.kernel_list.specs.Lists.{union_below}
use Rattle.kernel_list.proofs.Walks.{Left}
use Rattle.kernel_list.proofs.doors_of.Given as goal

abbrev pub invariant-loop-t : goal.invariant-loop-t
invariant-loop-t l = (u : ℕ) × Left l.k l.t-iterator.0 u × (l.all ≡ union_below l.sets l.k u)
