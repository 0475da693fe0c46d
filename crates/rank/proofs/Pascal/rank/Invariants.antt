-- Task by task from the lowest, the sum has what the tasks so far add. Assumes nothing.
use Rattle.model.proofs.Basics.{◌%◌, ◌^◌}
use Rattle.rank.specs.Ranks.{max_ranked}
use Rattle.rank.proofs.Ranking.{Ranking}
use Rattle.rank.proofs.Pascal.rank.Given as goal

abbrev pub invariant-loop-left : goal.invariant-loop-left
invariant-loop-left l = Ranking max_ranked (l.k % 2 ^ max_ranked) l.left l.rank l.size

abbrev pub decreases-loop-left : goal.decreases-loop-left
decreases-loop-left l = l.left
