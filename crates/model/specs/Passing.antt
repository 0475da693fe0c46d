-- What passing 10 to 15, and 16, means in plain facts (01, Layout of a task sheet and Numbers a call can answer with, which every definition here is from, but 16,
-- which is from 02, Req 03). Assumes nothing.
use Rattle.std.specs.Prelude.{◌≡◌, true, false, List, ℕ, suc, ◌^◌, ◌≤◌, ◌<◌, T, ℤ, pos, negsuc, length, get_or}
use Rattle.std.specs.Int.Signed.{non_neg}
use Rattle.model.specs.Sheet.{Sheet}
use Rattle.model.specs.Orders.{no_order, essential}
use Rattle.model.specs.Cost.{load}
use Rattle.model.specs.Bytes.{number_at}
use Rattle.model.specs.SheetLayout.{Layout, points_body, bodies, max_tasks, max_doors, max_starts, max_pairs, max_rules, max_points, line_body, line_offset, entries, body_at, layout_of, decode}

-- ---- 12: the numbers of entries

-- that of each body is within the table
abbrev pub EntriesWithin : Layout → List ℕ → Type 0
EntriesWithin L b = (i : ℕ) → i < bodies → (get_or (L.fewest (entries b points_body)) i 0 ≤ entries b i) × (entries b i ≤ get_or (L.most (entries b points_body)) i 0)

-- the same for kind 1, body by body
pub record CountsWithin (S : Sheet) : Type 0 where
  pub one_task : 1 ≤ S.tasks
  pub tasks : S.tasks ≤ max_tasks
  pub one_door : 1 ≤ S.doors
  pub doors : S.doors ≤ max_doors
  pub one_start : 1 ≤ S.starts
  pub starts : S.starts ≤ max_starts
  pub pairs : S.pairs ≤ max_pairs
  pub rules : S.rules ≤ max_rules
  pub one_point : 1 ≤ S.points
  pub points : S.points ≤ max_points

-- ---- 14: every number that a sheet names is in the sheet

pub record InRange (S : Sheet) : Type 0 where
  pub task : (d : ℕ) → d < S.doors → S.task d < S.tasks
  pub arrive : (d : ℕ) → d < S.doors → S.arrive d < S.points
  pub depart : (d : ℕ) → d < S.doors → S.depart d < S.points
  pub start : (s : ℕ) → s < S.starts → S.start_point s < S.points
  pub sender : (i : ℕ) → i < S.pairs → S.sender i < S.tasks
  pub receiver : (i : ℕ) → i < S.pairs → S.receiver i < S.tasks
  pub rule_door : (i : ℕ) → i < S.rules → S.rule_door i < S.doors
  pub watched : (i : ℕ) → i < S.rules → S.watched i < 2 ^ S.tasks

-- and a least count is at least 1 and at most the layout's limit
abbrev pub LeastCounts : Layout → Sheet → Type 0
LeastCounts L S = (i : ℕ) → i < S.rules → (1 ≤ S.least_count i) × (S.least_count i ≤ L.max_least_count)

-- ---- 15: every task has a door

abbrev pub Served : Sheet → Type 0
Served S = (t : ℕ) → t < S.tasks → (d : ℕ) × (d < S.doors) × (S.task d ≡ t)

-- ---- 10 to 15

pub record Passes (b : List ℕ) : Type 0 where
  -- 10: the head is there
  pub long : 46 ≤ length b
  -- 11: the kind is that of the layout
  pub kind : number_at 2 b 0 ≡ (layout_of b).kind
  -- 12: the numbers of entries are within the table
  pub counts : EntriesWithin (layout_of b) b
  -- 13: each contents line names its body and the place where it starts, and the sheet ends with its last body
  pub lines : (i : ℕ) → i < bodies → (line_body b i ≡ suc i) × (line_offset b i ≡ body_at (layout_of b) b i)
  pub ends : length b ≡ body_at (layout_of b) b bodies
  -- 14: tasks, points, doors, watched tasks and least counts are in range
  pub ranges : InRange (decode b)
  pub least_counts : LeastCounts (layout_of b) (decode b)
  -- 15: every task has a door
  pub doors : Served (decode b)

-- ---- 14, 15 and 17, which is all that planning asks of what a sheet says

pub record Plannable (S : Sheet) : Type 0 where
  pub ranges : InRange S
  pub doors : Served S
  pub ordered : no_order S ≡ false

-- ---- 16

-- no essential list has a load below zero (02, Req 03), which is all that costing asks of a load (01, Cost of a round)
abbrev pub LoadsHold : Sheet → Type 0
LoadsHold S = (K : ℕ) → K < 2 ^ S.tasks → essential S K ≡ true → T (non_neg (load S K))

-- and otherwise some essential list has one
abbrev pub SomeTooLight : Sheet → Type 0
SomeTooLight S = (K : ℕ) × (K < 2 ^ S.tasks) × (essential S K ≡ true) × (T (non_neg (load S K)) → ⊥)

-- what a change adds to a load, and what it takes away from it
abbrev pub up : ℤ → ℕ
up (pos n) = n
up (negsuc n) = 0

abbrev pub down : ℤ → ℕ
down (pos n) = 0
down (negsuc n) = suc n
