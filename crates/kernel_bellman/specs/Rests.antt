-- Rows of costs to go from which the row of a list is made (01, Working; 000, (4.7)), and what making it asks of the arrays. Assumes nothing.
use Rattle.std.specs.Prelude.{◌≡◌, Bool, true, List, ℕ, ◌^◌, ◌≤◌, ◌<◌, length, get_or}
use Rattle.model.specs.TaskList.{without}
use Rattle.model.specs.Sheet.{Sheet}
use Rattle.model.specs.Orders.{essential}
use Rattle.model.specs.Method.{can_come_first}
use Rattle.model.specs.Plans.{cost_to_go}
use Rattle.kernel_sheet.specs.declared.Numbers.{Numbers}
use Rattle.kernel_sheet.specs.Prepared.{CountsOf, ChangesOf, SetsOf, BeginsOf, WorksOf, RulesOf, ColumnsOf, Workable}
use Rattle.kernel_list.specs.Lists.{Waiting, Opened}
use Rattle.kernel_gather.specs.Gathering.{rest_at}

-- whether door d's task can come first in K
abbrev pub is_first : Sheet → ℕ → ℕ → Bool
is_first S K d = can_come_first S K (S.task d)

-- the rests of K stand in the cells, in whatever rows: of each door whose task can come first the end is there that its slot names, and so far back from it is a cell that
-- shows the cost to go from where the door leads
pub record Rests (S : Sheet) (K : ℕ) (slots backs ends cells : List ℕ) : Type 0 where
  pub slot : (d : ℕ) → d < S.doors → is_first S K d ≡ true → get_or slots d 0 < length ends
  pub back : (d : ℕ) → d < S.doors → is_first S K d ≡ true → get_or backs d 0 ≤ get_or ends (get_or slots d 0) 0
  pub cell : (d : ℕ) → d < S.doors → is_first S K d ≡ true → rest_at slots backs ends d < length cells
  pub shows : (d : ℕ) → d < S.doors → is_first S K d ≡ true → get_or cells (rest_at slots backs ends d) 0 ≡ cost_to_go S (without K (S.task d)) (S.depart d)

-- ---- the numbers, as what is done list by list is lent them

-- the numbers of some sheet that can be worked on
pub record Arrayed (S : Sheet) (x : Numbers) (columns : List ℕ) : Type 0 where
  pub workable : Workable S
  pub counts : CountsOf S x.counts
  pub change : ChangesOf S x.tasks.change
  pub set : SetsOf S x.tasks.doors
  pub begin : BeginsOf S x.doors.column
  pub work : WorksOf S x.doors.work
  pub rules : RulesOf S x.rules.door x.rules.watched x.rules.least x.rules.most x.rules.charge
  pub columned : ColumnsOf S columns

-- with an essential list of it, and who waits for its tasks
pub record Listed (S : Sheet) (x : Numbers) (K r : ℕ) (columns : List ℕ) : Type 0 where
  pub arrays : Arrayed S x columns
  pub list : K < 2 ^ S.tasks
  pub ess : essential S K ≡ true
  pub waiting : Waiting S K r

-- a sheet that can be worked on, an essential list, what it has once it is open, and cells in which its rests stand; w is its load, `set` the doors that can come first
pub record OpenList (S : Sheet) (K w set : ℕ) (before sums slots backs ends cells : List ℕ) : Type 0 where
  pub workable : Workable S
  pub list : K < 2 ^ S.tasks
  pub ess : essential S K ≡ true
  pub opened : Opened S K w set before sums
  pub rests : Rests S K slots backs ends cells
