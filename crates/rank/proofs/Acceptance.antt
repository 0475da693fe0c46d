-- The examples hold of the definitions, by computing. Assumes nothing.
use Rattle.model.proofs.Basics.{T}
use Rattle.model.specs.{count_below, map_below, bit, size}
use Rattle.rank.specs.Binomials.{most_lists}
use Rattle.rank.specs.Ranks.{same_size, rank}
use Rattle.rank.specs.Examples.{check_ranks, check_order, check_most}

-- the rank by the table's numbers is the rank by counting, for every list of up to five tasks
pub ranks : T check_ranks
unfolding check_ranks count_below bit size same_size rank
ranks = tt

pub order : T check_order
unfolding check_order map_below count_below bit size same_size rank
order = tt

-- 1, 2, 3, 6, 10, 20, 35, 70, 126, 252, 462 and 924 lists of one size at most, for 1 to 12 tasks
pub most : T check_most
unfolding check_most map_below most_lists
most = tt
