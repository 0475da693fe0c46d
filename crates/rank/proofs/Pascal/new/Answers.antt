-- The table follows Pascal's rule, by one test, which computes to true. Assumes nothing.
use Rattle.model.proofs.Basics.{refl}
use Rattle.rank.proofs.PascalsRule.{tabled}
use Rattle.rank.proofs.Pascal.new.Goals as goal

-- the table is taken from the code
pub invariant_of-result : goal.invariant_of-result
invariant_of-result c =
    record { tabled = tabled _ refl }
