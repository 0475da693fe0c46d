-- The loop's sum is the end load and the changes of the tasks passed. Each of them has 16 bits, so that 32 hold the sum of all; and it is not below zero where
-- the load is not, so its cast keeps it. Assumes nothing.
use Rattle.model.proofs.Basics.{ℕ}
use Rattle.kernel_list.proofs.Walks.{Left}
use Rattle.kernel_list.proofs.Loads.{LoadBelow}
use Rattle.kernel_list.proofs.load.Given as goal

abbrev pub invariant-loop-t : goal.invariant-loop-t
invariant-loop-t l = (u : ℕ) × Left l.k l.t-iterator.0 u × LoadBelow l.end_load l.change l.k u l.sum
