-- Task by task from the lowest, the sum has what the tasks so far add. Assumes nothing.
use Rattle.model.proofs.Basics.{◌∙◌, arith}
use Rattle.model.specs.{mask_bits}
use lib.Count.{count_trailing_zeros}
use Rattle.rank.specs.Ranks.{max_ranked, rank_of}
use Rattle.model.proofs.TaskLists.Lowest.{Lowest, lowest}
use Rattle.rank.proofs.Ends.{without_less, size_mask}
use Rattle.rank.proofs.Ranking.{none_ranked, one_ranked, rank_fits, all_ranked}
use Rattle.rank.proofs.Pascal.rank.Goals.{In-loop-left}
use Rattle.rank.proofs.Pascal.rank.Goals as goal

-- the task of the turn
task : (c : In-loop-left) → Lowest c.loop-left.left (count_trailing_zeros mask_bits c.loop-left.left)
task c = lowest mask_bits _ (omega arith) (omega arith)

pub loop-left-init : goal.loop-left-init
loop-left-init c =
    none_ranked _ _ (omega arith)

pub overflow_add-size : goal.overflow_add-size
overflow_add-size c =
    omega (arith, (rank_fits c.loop-left.invariant (task (goal.at.overflow_add-size c).In-loop-left)).1)

pub binomial-rank-requires : goal.binomial-rank-requires
binomial-rank-requires c =
    let f = rank_fits c.loop-left.invariant (task (goal.at.binomial-rank-requires c).In-loop-left) in (f.0, f.1)

pub overflow_add-rank : goal.overflow_add-rank
overflow_add-rank c =
    omega (arith, (rank_fits c.loop-left.invariant (task (goal.at.overflow_add-rank c).In-loop-left)).2, c.binomial-rank.ensures)

pub loop-left-smaller : goal.loop-left-smaller
loop-left-smaller c =
    rw c.without-left.ensures (without_less _ _ (task (goal.at.loop-left-smaller c).In-loop-left).task)

-- one task more
pub loop-left-preserved : goal.loop-left-preserved
loop-left-preserved c =
    rw (c.without-left.ensures, c.binomial-rank.ensures) (one_ranked c.loop-left.invariant (task (goal.at.loop-left-preserved c).In-loop-left))

pub returns : goal.returns
unfolding rank_of
returns c =
    let r = all_ranked c.loop-left.invariant c.loop-left-test.false in record { rank = r.0; size = r.1 ∙ size_mask max_ranked _ }
