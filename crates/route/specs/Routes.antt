-- A route step by step and door by door: where the van stands, which list is open, and what costing the route asks
-- (01, Cost of a round; 000, (2.12)). Assumes nothing.
use Rattle.std.specs.Prelude.{◌≡◌, true, cond, List, [], ◌∷◌, map, ℕ, zero, suc, ◌^◌, ◌≤◌, ◌<◌, T, eqb, length, get_or, drop}
use Rattle.std.specs.Int.Signed.{non_neg}
use Rattle.model.specs.Folds.{sum_below, count_of}
use Rattle.model.specs.TaskList.{mask_of}
use Rattle.model.specs.Method.{mask_bits}
use Rattle.model.specs.Sheet.{Sheet}
use Rattle.model.specs.Cost.{load, rule_charge, cost}
use Rattle.model.specs.Plans.{in_sheet}
use Rattle.model.specs.SheetLayout.{max_doors}
use Rattle.model.specs.Passing.{InRange}

-- ---- step by step

-- where the van stands before step i of a route from point p: the last departure point, at first p (01, Cost of a round)
abbrev pub point_before : Sheet → ℕ → List ℕ → ℕ → ℕ
point_before S p ds zero = p
point_before S p ds (suc i) = S.depart (get_or ds i 0)

-- the list that is open at step i: the tasks of the doors from there on, that step's included (000, (2.12))
unfoldable pub open_at : Sheet → List ℕ → ℕ → ℕ
open_at S ds i = mask_of (map S.task (drop i ds))

-- ---- door by door

-- the list that is open where door x is done on a route through the doors ds for the tasks ts, and the empty one where it is not done
-- there (000, (2.12))
abbrev pub open_by : List ℕ → List ℕ → ℕ → ℕ
open_by [] ts x = 0
open_by (d ∷ ds) [] x = 0
open_by (d ∷ ds) (t ∷ ts) x = cond (eqb d x) (mask_of (t ∷ ts)) (open_by ds ts x)

-- what the access rules cost where `lists` has for each door the list that is open there (01, Cost of a round)
unfoldable pub charges_with : Sheet → List ℕ → ℕ
charges_with S lists = sum_below S.rules (λ i. rule_charge S (get_or lists (S.rule_door i) 0) i)

-- ---- what is asked

-- what listing asks: as many tasks as doors, doors that the array has a place for, and tasks that a mask has a bit for
pub record Listable (ds ts : List ℕ) : Type 0 where
  pub size : length ts ≡ length ds
  pub door : (i : ℕ) → i < length ds → get_or ds i 0 < max_doors
  pub task : (i : ℕ) → i < length ds → get_or ts i 0 < mask_bits

-- what charging asks: for the door of each rule a list of the sheet's tasks, and a sum that fits
pub record ChargeableWith (S : Sheet) (lists : List ℕ) : Type 0 where
  pub door : (i : ℕ) → i < S.rules → S.rule_door i < length lists
  pub list : (i : ℕ) → i < S.rules → get_or lists (S.rule_door i) 0 < 2 ^ S.tasks
  pub fits : charges_with S lists < 2 ^ 64

-- what costing a route asks: a sheet that 14 does not refuse, with tasks that a mask has bits for and doors that the array has places
-- for; a point and doors of the sheet, with their tasks, none of them twice; at no step a load below zero; and a cost that fits
pub record Costable (S : Sheet) (p : ℕ) (ds ts : List ℕ) : Type 0 where
  pub ranges : InRange S
  pub least_counts : (i : ℕ) → i < S.rules → 1 ≤ S.least_count i
  pub tasks : S.tasks ≤ mask_bits
  pub doors : S.doors ≤ max_doors
  pub point : p < S.points
  pub stands_in_sheet : in_sheet S ds ≡ true
  pub tasks_are : ts ≡ map S.task ds
  pub once : (t : ℕ) → count_of t ts ≤ 1
  pub loads : (i : ℕ) → i < length ds → T (non_neg (load S (open_at S ds i)))
  pub fits : cost S p ds < 2 ^ 64
