-- Task by task from the highest, the row of the list without it; the sum then has the task one place lower. Assumes nothing.
use Rattle.model.proofs.Basics.{◌≡◌, ◌%◌, ◌^◌}
use Rattle.rank.specs.Ranks.{max_ranked}
use Rattle.rank.proofs.Rests.{Lowering, rows_while}
use Rattle.rank.proofs.Pascal.rows.Given as goal

abbrev pub invariant-loop-left : goal.invariant-loop-left
invariant-loop-left l = (l.ends ≡ rows_while l.points l.k l.left) × Lowering max_ranked (l.k % 2 ^ max_ranked) l.left l.sum l.i

abbrev pub decreases-loop-left : goal.decreases-loop-left
decreases-loop-left l = l.left
