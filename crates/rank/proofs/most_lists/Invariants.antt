-- The largest so far of the binomials of n, for each number of tasks. Assumes nothing.
use Rattle.model.proofs.Basics.{◌≡◌}
use Rattle.rank.specs.Binomials.{binomial, largest_below}
use Rattle.rank.proofs.most_lists.Given as goal

abbrev pub invariant-loop-k : goal.invariant-loop-k
invariant-loop-k l = l.most ≡ largest_below l.k (binomial l.n)
