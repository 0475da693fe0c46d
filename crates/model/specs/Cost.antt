-- The cost of a route, in kilogram decametres (01, Cost of a round; 000, (2.12)). Assumes nothing.
use Rattle.std.specs.Prelude.{cond, List, [], ◌∷◌, map, ℕ, zero, suc, ◌+◌, ◌*◌, eqb, leb, ℤ, pos, ◌+ℤ◌, nat_abs}
use Rattle.model.specs.Folds.{sum_below}
use Rattle.model.specs.TaskList.{member, watched_in, mask_of}
use Rattle.model.specs.Sheet.{Sheet}

-- the load while K is open: the end load and the change of every task in K (01, Cost of a round); here of those tasks below n
abbrev pub load_below : Sheet → ℕ → ℕ → ℤ
load_below S K zero = pos S.end_load
load_below S K (suc n) = load_below S K n +ℤ cond (member K n) (S.change n) (pos 0)

-- and of all tasks: the load while K is open (01, Cost of a round)
unfoldable pub load : Sheet → ℕ → ℤ
load S K = load_below S K S.tasks

-- what access rule i costs at its door while K is open: its charge, if at least its least count of watched tasks are in K (01, Cost of a round)
unfoldable pub rule_charge : Sheet → ℕ → ℕ → ℕ
rule_charge S K i = cond (leb (S.least_count i) (watched_in S.tasks (S.watched i) K)) (S.charge i) 0

-- the charges of the access rules on door d while K is open (01, Cost of a round)
unfoldable pub charges : Sheet → ℕ → ℕ → ℕ
charges S K d = sum_below S.rules (λ i. cond (eqb (S.rule_door i) d) (rule_charge S K i) 0)

-- one step, from point p through door d with K open: distance times load, work, charges (01, Cost of a round; 000, a term of (2.12)).
-- A load below zero is never costed: where K is essential number 16 refuses the sheet, and no other list is open along a solution or a completion (`legs_hold`)
unfoldable pub step_cost : Sheet → ℕ → ℕ → ℕ → ℕ
step_cost S K p d = S.distance p (S.arrive d) * nat_abs (load S K) + S.work d + charges S K d

-- from point p through the doors to the end. At each step the open list has the tasks of the doors still to come, that step's included (000, (2.12))
abbrev pub cost : Sheet → ℕ → List ℕ → ℕ
cost S p [] = S.end_cost p
cost S p (d ∷ ds) = step_cost S (mask_of (map S.task (d ∷ ds))) p d + cost S (S.depart d) ds
