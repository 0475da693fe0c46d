-- A table whose numbers follow a rule: one test over the whole table, which antt computes, gives the rule at each place. Assumes nothing.
use Rattle.model.proofs.Basics.{◌≡◌, true, List, ℕ, ◌<◌, eqb, length, get_or, eqb-true}
use Rattle.model.specs.{all_below}
use Rattle.model.proofs.Tools.Tests.{all_at}

-- f i stands at place i
pub values : (f : ℕ → ℕ) (table : List ℕ) (i : ℕ) → i < length table → all_below (length table) (λ j. eqb (get_or table j 0) (f j)) ≡ true
    → get_or table i 0 ≡ f i
values f table i l p = eqb-true (get_or table i 0) (f i) (all_at (length table) (λ j. eqb (get_or table j 0) (f j)) p i l)
