-- Document 01's own figures: where each number of a sheet stands, what each number that a call can answer with means, in plain facts, in which order they are
-- tested, what a route costs, and what is printed. No figure here comes from the table of SheetLayout.antt, no order from a list of tests, and no part of a sum from
-- Cost.antt or TaskList.antt. `figures` proves `FiguresHold`, which is all of it (01, Layout of a task sheet, Cost of a round, Layout of a plan, Numbers a call can answer
-- with, and Sheet A and its neighbours; 16 and its place as 02, Req 03, has them). Assumes nothing.
use Rattle.std.specs.Prelude.{◌≡◌, ◌↔◌, true, cond, ◌&&◌, List, [], ◌∷◌, ◌++◌, ℕ, zero, suc, ◌+◌, ◌-◌, ◌*◌, ◌/◌, ◌%◌, ◌^◌, ◌≤◌, ◌<◌, eqb, leb, ℤ, pos, ◌+ℤ◌, length, get_or, take, drop}
use Rattle.model.specs.Folds.{sum_below, flat_map_below, map_below, count_of, index_of}
use Rattle.model.specs.Sheet.{Sheet}
use Rattle.model.specs.Cost.{cost}
use Rattle.model.specs.Plans.{is_solution, round_cost, is_completion}
use Rattle.model.specs.Bytes.{number_at, signed}
use Rattle.model.specs.Answer.{Answer, refused, accepted, status}
use Rattle.model.specs.SheetLayout.{decode}
use Rattle.model.specs.Passing.{up, down}
use Rattle.model.specs.Planning.{plan}
use Rattle.model.specs.Printing.{ascii, decimal, printed_with, print, printed}
use Rattle.model.specs.PlanLayout.{write_plan, PlanRead, read_plan}
use Rattle.model.specs.Faults.{read_sheet}
use Rattle.model.specs.Validating.{validate}

-- ---- where the numbers of a sheet stand

-- the numbers of entries, in the last 16 bits of each contents line: N tasks
abbrev pub tasks_stated : List ℕ → ℕ
tasks_stated b = number_at 2 b 8

abbrev pub doors_stated : List ℕ → ℕ
doors_stated b = number_at 2 b 14

abbrev pub starts_stated : List ℕ → ℕ
starts_stated b = number_at 2 b 20

abbrev pub pairs_stated : List ℕ → ℕ
pairs_stated b = number_at 2 b 26

abbrev pub rules_stated : List ℕ → ℕ
rules_stated b = number_at 2 b 32

-- P points
abbrev pub points_stated : List ℕ → ℕ
points_stated b = number_at 2 b 38

abbrev pub distances_stated : List ℕ → ℕ
distances_stated b = number_at 2 b 44

-- where each body starts, the tasks at byte 46, and where the last ends
abbrev pub doors_from : List ℕ → ℕ
doors_from b = 46 + 2 * tasks_stated b

abbrev pub starts_from : List ℕ → ℕ
starts_from b = doors_from b + 10 * doors_stated b

abbrev pub pairs_from : List ℕ → ℕ
pairs_from b = starts_from b + 2 * starts_stated b

abbrev pub rules_from : List ℕ → ℕ
rules_from b = pairs_from b + 4 * pairs_stated b

abbrev pub points_from : List ℕ → ℕ
points_from b = rules_from b + 10 * rules_stated b

abbrev pub distances_from : List ℕ → ℕ
distances_from b = points_from b + 4 * points_stated b

abbrev pub ends_at : List ℕ → ℕ
ends_at b = distances_from b + 2 * distances_stated b

-- what the sheet says, field by field: 16 bits each, but 32 for work, charge and end cost
pub record StandsAt (b : List ℕ) (S : Sheet) : Type 0 where
  pub end_load : S.end_load ≡ number_at 2 b 2
  pub tasks : S.tasks ≡ tasks_stated b
  pub doors : S.doors ≡ doors_stated b
  pub starts : S.starts ≡ starts_stated b
  pub pairs : S.pairs ≡ pairs_stated b
  pub rules : S.rules ≡ rules_stated b
  pub points : S.points ≡ points_stated b
  pub change : (t : ℕ) → S.change t ≡ signed 2 (number_at 2 b (46 + 2 * t))
  pub task : (d : ℕ) → S.task d ≡ number_at 2 b (doors_from b + 10 * d)
  pub arrive : (d : ℕ) → S.arrive d ≡ number_at 2 b (doors_from b + 10 * d + 2)
  pub depart : (d : ℕ) → S.depart d ≡ number_at 2 b (doors_from b + 10 * d + 4)
  pub work : (d : ℕ) → S.work d ≡ number_at 4 b (doors_from b + 10 * d + 6)
  pub start_point : (s : ℕ) → S.start_point s ≡ number_at 2 b (starts_from b + 2 * s)
  pub sender : (i : ℕ) → S.sender i ≡ number_at 2 b (pairs_from b + 4 * i)
  pub receiver : (i : ℕ) → S.receiver i ≡ number_at 2 b (pairs_from b + 4 * i + 2)
  pub rule_door : (i : ℕ) → S.rule_door i ≡ number_at 2 b (rules_from b + 10 * i)
  pub watched : (i : ℕ) → S.watched i ≡ number_at 2 b (rules_from b + 10 * i + 2)
  pub least_count : (i : ℕ) → S.least_count i ≡ number_at 2 b (rules_from b + 10 * i + 4)
  pub charge : (i : ℕ) → S.charge i ≡ number_at 4 b (rules_from b + 10 * i + 6)
  pub end_cost : (p : ℕ) → S.end_cost p ≡ number_at 4 b (points_from b + 4 * p)
  pub distance : (p q : ℕ) → S.distance p q ≡ number_at 2 b (distances_from b + 2 * (p * points_stated b + q))

-- ---- what the sheet's own numbers mean

-- n is from lo to hi
abbrev pub Between : ℕ → ℕ → ℕ → Type 0
Between lo hi n = (lo ≤ n) × (n ≤ hi)

-- 12: the numbers of entries are those of the table
pub record RightEntries (b : List ℕ) : Type 0 where
  pub tasks : Between 1 12 (tasks_stated b)
  pub doors : Between 1 64 (doors_stated b)
  pub starts : Between 1 16 (starts_stated b)
  pub pairs : Between 0 32 (pairs_stated b)
  pub rules : Between 0 32 (rules_stated b)
  pub points : Between 1 64 (points_stated b)
  pub distances : distances_stated b ≡ points_stated b * points_stated b

-- 13: the contents lines have these body numbers and offsets, and the sheet ends with body 7
pub record RightPlaces (b : List ℕ) : Type 0 where
  pub tasks : (number_at 2 b 4 ≡ 1) × (number_at 2 b 6 ≡ 46)
  pub doors : (number_at 2 b 10 ≡ 2) × (number_at 2 b 12 ≡ doors_from b)
  pub starts : (number_at 2 b 16 ≡ 3) × (number_at 2 b 18 ≡ starts_from b)
  pub pairs : (number_at 2 b 22 ≡ 4) × (number_at 2 b 24 ≡ pairs_from b)
  pub rules : (number_at 2 b 28 ≡ 5) × (number_at 2 b 30 ≡ rules_from b)
  pub points : (number_at 2 b 34 ≡ 6) × (number_at 2 b 36 ≡ points_from b)
  pub distances : (number_at 2 b 40 ≡ 7) × (number_at 2 b 42 ≡ distances_from b)
  pub ends : length b ≡ ends_at b

-- 14: every task, point and door that is named is in the sheet, no watched bit is at N or above, which would make the number 2^N or more, and least counts run from 1 to 12
pub record RightRanges (S : Sheet) : Type 0 where
  pub task : (d : ℕ) → d < S.doors → S.task d < S.tasks
  pub arrive : (d : ℕ) → d < S.doors → S.arrive d < S.points
  pub depart : (d : ℕ) → d < S.doors → S.depart d < S.points
  pub start_point : (s : ℕ) → s < S.starts → S.start_point s < S.points
  pub sender : (i : ℕ) → i < S.pairs → S.sender i < S.tasks
  pub receiver : (i : ℕ) → i < S.pairs → S.receiver i < S.tasks
  pub rule_door : (i : ℕ) → i < S.rules → S.rule_door i < S.doors
  pub watched : (i : ℕ) → i < S.rules → S.watched i < 2 ^ S.tasks
  pub least_count : (i : ℕ) → i < S.rules → Between 1 12 (S.least_count i)

-- ts is an order of all tasks that keeps every pair: each task stands in it once and nothing else does, and of each pair the sender stands before the receiver
pub record KeepsPairs (S : Sheet) (ts : List ℕ) : Type 0 where
  pub once : (t : ℕ) → t < S.tasks → count_of t ts ≡ 1
  pub nothing_else : (t : ℕ) → S.tasks ≤ t → count_of t ts ≡ 0
  pub pairs : (i : ℕ) → i < S.pairs → index_of (S.sender i) ts < index_of (S.receiver i) ts

-- task t is in list K: bit t of K
abbrev pub HasTask : ℕ → ℕ → Type 0
HasTask K t = K / 2 ^ t % 2 ≡ 1

-- list K is closed: it has the receiver of each pair whose sender it has. The lists that the pairs allow are the closed ones, and the essential lists those from 1 on
abbrev pub Closed : Sheet → ℕ → Type 0
Closed S K = (i : ℕ) → i < S.pairs → HasTask K (S.sender i) → HasTask K (S.receiver i)

-- 16: E and what the tasks of list K add is less than what they take away, so that E plus the w of its tasks is below zero
abbrev pub BelowZero : Sheet → ℕ → Type 0
BelowZero S K = S.end_load + sum_below S.tasks (λ t. K / 2 ^ t % 2 * up (S.change t)) < sum_below S.tasks (λ t. K / 2 ^ t % 2 * down (S.change t))

-- the number r applies to the sheet b
pub data SheetApplies (b : List ℕ) (r : ℕ) : Type 0 where
  -- 10: the sheet is shorter than 46 bytes
  is10 : r ≡ 10 → length b < 46 → SheetApplies b r
  -- 11: the kind is not 1
  is11 : r ≡ 11 → (number_at 2 b 0 ≡ 1 → ⊥) → SheetApplies b r
  -- 12: a number of entries is outside the table
  is12 : r ≡ 12 → (RightEntries b → ⊥) → SheetApplies b r
  -- 13: a body number or offset is wrong, or the sheet's length is not the end of body 7
  is13 : r ≡ 13 → (RightPlaces b → ⊥) → SheetApplies b r
  -- 14: a task, point, door or least count is out of range, or a watched bit at N or above
  is14 : r ≡ 14 → (RightRanges (decode b) → ⊥) → SheetApplies b r
  -- 15: some task has no door
  is15 : r ≡ 15 → (t : ℕ) → t < (decode b).tasks → ((d : ℕ) → d < (decode b).doors → (decode b).task d ≡ t → ⊥) → SheetApplies b r
  -- 17: no order of the tasks keeps every pair
  is17 : r ≡ 17 → ((ts : List ℕ) → KeepsPairs (decode b) ts → ⊥) → SheetApplies b r
  -- 16: some list K from 1 to 2^N - 1, with the receiver of each pair whose sender it has, has E plus the w of its tasks below zero
  is16 : r ≡ 16 → (K : ℕ) → 1 ≤ K → K < 2 ^ (decode b).tasks → Closed (decode b) K → BelowZero (decode b) K → SheetApplies b r

-- ---- what the numbers of planning mean

-- r applies to the sheet b with so many cells and so many bytes lent
pub data PlanningApplies (b : List ℕ) (cells room r : ℕ) : Type 0 where
  sheet : SheetApplies b r → PlanningApplies b cells room r
  -- 20: fewer work cells than needed
  is20 : r ≡ 20 → cells < 2 ^ tasks_stated b * points_stated b → PlanningApplies b cells room r
  -- 21: the buffer is shorter than 32 + 2N
  is21 : r ≡ 21 → room < 32 + 2 * tasks_stated b → PlanningApplies b cells room r

-- ---- what the numbers of a plan mean

-- the plan is laid out for n doors: its length, and every byte before 22
abbrev pub LaidOut : ℕ → List ℕ → Type 0
LaidOut n q =
    (length q ≡ 32 + 2 * n)
    × (take 22 q ≡ 2 ∷ 0 ∷ 0 ∷ 0 ∷ 1 ∷ 0 ∷ 22 ∷ 0 ∷ 1 ∷ 0 ∷ 2 ∷ 0 ∷ 24 ∷ 0 ∷ n ∷ 0 ∷ 3 ∷ 0 ∷ (24 + 2 * n) ∷ 0 ∷ 1 ∷ 0 ∷ [])

-- the start, door i and the cost that a plan states
abbrev pub start_stated : List ℕ → ℕ
start_stated q = number_at 2 q 22

abbrev pub door_stated : List ℕ → ℕ → ℕ
door_stated q i = number_at 2 q (24 + 2 * i)

abbrev pub cost_stated : ℕ → List ℕ → ℕ
cost_stated n q = number_at 8 q (24 + 2 * n)

-- a plan of n doors is read from q, with so many doors lent: a door lent from n on is 0
pub record ReadAs (n lent : ℕ) (q : List ℕ) (x : PlanRead) : Type 0 where
  pub start : x.start ≡ start_stated q
  pub as_many : length x.doors ≡ lent
  pub doors : (i : ℕ) → i < n → get_or x.doors i 0 ≡ door_stated q i
  pub zeros : (i : ℕ) → n ≤ i → i < lent → get_or x.doors i 1 ≡ 0
  pub cost : x.cost ≡ cost_stated n q

-- r applies to the plan q for the sheet b
pub data ValidatingApplies (b q : List ℕ) (r : ℕ) : Type 0 where
  sheet : SheetApplies b r → ValidatingApplies b q r
  -- 30: the plan's length or any byte before 22 is not as laid out for this N
  is30 : r ≡ 30 → (LaidOut (tasks_stated b) q → ⊥) → ValidatingApplies b q r
  -- 31: a start or door number is not in the sheet
  start31 : r ≡ 31 → starts_stated b ≤ start_stated q → ValidatingApplies b q r
  door31 : r ≡ 31 → (i : ℕ) → i < tasks_stated b → doors_stated b ≤ door_stated q i → ValidatingApplies b q r
  -- 32: a task is done twice
  is32 : r ≡ 32 → (i j : ℕ) → i < j → j < tasks_stated b → (decode b).task (door_stated q i) ≡ (decode b).task (door_stated q j) → ValidatingApplies b q r
  -- 33: a receiver is before its sender
  is33 : r ≡ 33 → (p i j : ℕ) → p < pairs_stated b → i < j → j < tasks_stated b
      → (decode b).task (door_stated q i) ≡ (decode b).receiver p → (decode b).task (door_stated q j) ≡ (decode b).sender p → ValidatingApplies b q r
  -- 34: the cost stated is not the cost
  is34 : r ≡ 34 → (cost_stated (tasks_stated b) q ≡ round_cost (decode b) (start_stated q) (map_below (tasks_stated b) (door_stated q)) → ⊥) → ValidatingApplies b q r

-- r applies to writing a plan of n doors, with so many doors lent and so many bytes
pub data WritingApplies (n lent room r : ℕ) : Type 0 where
  -- 12: N is outside 1 to 12, or fewer than N doors are lent
  tasks12 : r ≡ 12 → (Between 1 12 n → ⊥) → WritingApplies n lent room r
  lent12 : r ≡ 12 → lent < n → WritingApplies n lent room r
  -- 21: the buffer is shorter than 32 + 2N
  is21 : r ≡ 21 → room < 32 + 2 * n → WritingApplies n lent room r

-- r applies to reading a plan of n doors, with so many doors lent
pub data ReadingPlanApplies (n lent : ℕ) (q : List ℕ) (r : ℕ) : Type 0 where
  tasks12 : r ≡ 12 → (Between 1 12 n → ⊥) → ReadingPlanApplies n lent q r
  lent12 : r ≡ 12 → lent < n → ReadingPlanApplies n lent q r
  -- 30: the condition that judging has for it
  is30 : r ≡ 30 → (LaidOut n q → ⊥) → ReadingPlanApplies n lent q r

-- ---- the order in which each call tests its numbers

-- the sheet's own: 17 before 16 (02, Req 03)
abbrev pub sheet_order : List ℕ
sheet_order = 10 ∷ 11 ∷ 12 ∷ 13 ∷ 14 ∷ 15 ∷ 17 ∷ 16 ∷ []

abbrev pub planning_order : List ℕ
planning_order = sheet_order ++ (20 ∷ 21 ∷ [])

abbrev pub validating_order : List ℕ
validating_order = sheet_order ++ (30 ∷ 31 ∷ 32 ∷ 33 ∷ 34 ∷ [])

abbrev pub writing_order : List ℕ
writing_order = 12 ∷ 21 ∷ []

abbrev pub reading_plan_order : List ℕ
reading_plan_order = 12 ∷ 30 ∷ []

-- ---- what a call answers

-- n is tested before r
abbrev pub Before : List ℕ → ℕ → ℕ → Type 0
Before order n r = index_of n order < index_of r order

-- r applies, and no number that is tested before it does: the order decides, and not which number is lower
abbrev pub First : List ℕ → (ℕ → Type 0) → ℕ → Type 0
First order applies r = applies r × ((n : ℕ) → Before order n r → applies n → ⊥)

-- no number applies
abbrev pub None : (ℕ → Type 0) → Type 0
None applies = (n : ℕ) → applies n → ⊥

-- r stands in the order
abbrev pub Listed : List ℕ → ℕ → Type 0
Listed order r = index_of r order < length order

-- the call is refused with r exactly if r applies and none that it tests before r does, and is accepted exactly if none applies; and so by what is returned. What it is
-- refused with stands in the order
pub record AnswersBy {A : Type 0} (order : List ℕ) (applies : ℕ → Type 0) (a : Answer A) : Type 0 where
  pub refuses : (r : ℕ) → (a ≡ refused r) ↔ First order applies r
  pub accepts : ((x : A) × (a ≡ accepted x)) ↔ None applies
  pub returns : (r : ℕ) → 0 < r → (status a ≡ r) ↔ First order applies r
  pub returns_0 : (status a ≡ 0) ↔ None applies
  pub listed : (r : ℕ) → a ≡ refused r → Listed order r

-- ---- what a route costs: (2.12) once more, in plain sums over the places 0 to n - 1 of the doors d 0 .. d (n - 1), driven from point p

-- the sum of f j over the j from i to n - 1
abbrev pub sum_from : ℕ → ℕ → (ℕ → ℕ) → ℕ
sum_from i n f = sum_below (n - i) (λ k. f (i + k))

-- the point before leg i: p, or where door i - 1 departs
abbrev pub point_before : Sheet → ℕ → (ℕ → ℕ) → ℕ → ℕ
point_before S p d zero = p
point_before S p d (suc i) = S.depart (d i)

-- L i is E plus the w of the tasks of d i .. d (n - 1), at every leg i: with all that these take away it is E and all that they add
abbrev pub LoadsAre : Sheet → ℕ → (ℕ → ℕ) → (ℕ → ℕ) → Type 0
LoadsAre S n d L =
    (i : ℕ) → i < n → L i + sum_from i n (λ j. down (S.change (S.task (d j)))) ≡ S.end_load + sum_from i n (λ j. up (S.change (S.task (d j))))

-- of how many j from i on bit t of the tasks that rule r watches is 1, t the task of d j
abbrev pub watched_from : Sheet → ℕ → (ℕ → ℕ) → ℕ → ℕ → ℕ
watched_from S n d i r = sum_from i n (λ j. S.watched r / 2 ^ S.task (d j) % 2)

-- what rule r costs on leg i: its charge, if it is on d i and its least count is at most that many
abbrev pub charge_on : Sheet → ℕ → (ℕ → ℕ) → ℕ → ℕ → ℕ
charge_on S n d i r = cond (eqb (S.rule_door r) (d i) && leb (S.least_count r) (watched_from S n d i r)) (S.charge r) 0

-- leg i costs distance times L i, the work of d i, and what every rule costs on it
abbrev pub leg_sum : Sheet → ℕ → ℕ → (ℕ → ℕ) → (ℕ → ℕ) → ℕ → ℕ
leg_sum S p n d L i = S.distance (point_before S p d i) (S.arrive (d i)) * L i + S.work (d i) + sum_below S.rules (charge_on S n d i)

-- the route costs its legs, and the end cost of where the van stands behind the last
abbrev pub route_sum : Sheet → ℕ → ℕ → (ℕ → ℕ) → (ℕ → ℕ) → ℕ
route_sum S p n d L = sum_below n (leg_sum S p n d L) + S.end_cost (point_before S p d n)

-- the tasks of the doors are the sheet's, and differ
pub record OwnTasks (S : Sheet) (n : ℕ) (d : ℕ → ℕ) : Type 0 where
  pub below : (i : ℕ) → i < n → S.task (d i) < S.tasks
  pub differ : (i j : ℕ) → i < j → j < n → S.task (d i) ≡ S.task (d j) → ⊥

-- the route has such L, and costs c by them
pub record CostsSum (S : Sheet) (p n : ℕ) (d : ℕ → ℕ) (c : ℕ) : Type 0 where
  pub loads : ℕ → ℕ
  pub loads_are : LoadsAre S n d loads
  pub costs : c ≡ route_sum S p n d loads

-- door i of a list of doors
abbrev pub door_of : List ℕ → ℕ → ℕ
door_of ds i = get_or ds i 0

-- of a sheet that reads
pub record SumsHold (b : List ℕ) : Type 0 where
  -- every solution, and every completion of a closed list from every point, has such L and costs such a sum
  pub solutions : (s : ℕ) (ds : List ℕ) → is_solution (decode b) s ds ≡ true
      → CostsSum (decode b) ((decode b).start_point s) (length ds) (door_of ds) (round_cost (decode b) s ds)
  pub completions : (K p : ℕ) (ds : List ℕ) → K < 2 ^ (decode b).tasks → Closed (decode b) K → is_completion (decode b) K ds ≡ true
      → CostsSum (decode b) p (length ds) (door_of ds) (cost (decode b) p ds)
  -- a completion of K has the tasks of K: it is the sum of 2^t over the tasks t of its doors
  pub completes : (K : ℕ) (ds : List ℕ) → K < 2 ^ (decode b).tasks → is_completion (decode b) K ds ≡ true
      → K ≡ sum_from 0 (length ds) (λ j. 2 ^ (decode b).task (door_of ds j))
  -- a plan that 30 to 33 do not refuse costs such a sum, and gets 34 exactly if it states another number
  pub gets_34 : (q : List ℕ) → ((r : ℕ) → Between 30 33 r → validate b q ≡ refused r → ⊥)
      → (c : ℕ) × CostsSum (decode b) ((decode b).start_point (start_stated q)) (tasks_stated b) (door_stated q) c
      × ((validate b q ≡ refused 34) ↔ (cost_stated (tasks_stated b) q ≡ c → ⊥))
  -- the cost that planning answers is the sum of the plan that it leaves in the buffer
  pub planned : (cells buffer : List ℕ) (c : ℕ) → (plan b cells buffer).answer ≡ accepted c
      → CostsSum (decode b) ((decode b).start_point (start_stated (plan b cells buffer).bytes)) (tasks_stated b) (door_stated (plan b cells buffer).bytes) c
  -- each cell of a closed list is the sum of some completion
  pub cells : (cells buffer : List ℕ) (c : ℕ) → (plan b cells buffer).answer ≡ accepted c
      → (K p : ℕ) → K < 2 ^ (decode b).tasks → Closed (decode b) K → p < (decode b).points
      → (ds : List ℕ) × (is_completion (decode b) K ds ≡ true)
      × CostsSum (decode b) p (length ds) (door_of ds) (get_or (plan b cells buffer).cells (K * (decode b).points + p) 0)
  -- and each cell of another list is as lent
  pub other_cells : (cells buffer : List ℕ) (c : ℕ) → (plan b cells buffer).answer ≡ accepted c
      → (K p : ℕ) → K < 2 ^ (decode b).tasks → (Closed (decode b) K → ⊥) → p < (decode b).points
      → get_or (plan b cells buffer).cells (K * (decode b).points + p) 0 ≡ get_or cells (K * (decode b).points + p) 0
  -- every essential list is the list of the tasks of d i .. d (N - 1) for some solution and some i
  pub lists_met : (K : ℕ) → 1 ≤ K → K < 2 ^ (decode b).tasks → Closed (decode b) K
      → (s : ℕ) × (ds : List ℕ) × (i : ℕ) × (is_solution (decode b) s ds ≡ true) × (i < (decode b).tasks)
      × (K ≡ sum_from i (decode b).tasks (λ j. 2 ^ (decode b).task (door_of ds j)))

-- ---- what is printed

-- the number that digits stand for, behind those that stand for v
abbrev pub digits_value : ℕ → List ℕ → ℕ
digits_value v [] = v
digits_value v (d ∷ ds) = digits_value (10 * v + (d - 48)) ds

-- text is n in decimal: digits, 48 to 57, that stand for n, the first of them above 48, but for 0, which is 48 alone
pub record IsDecimal (n : ℕ) (text : List ℕ) : Type 0 where
  pub digits : (i : ℕ) → i < length text → Between 48 57 (get_or text i 0)
  pub value : digits_value 0 text ≡ n
  pub first : 0 < n → 48 < get_or text 0 0
  pub zero_is : n ≡ 0 → text ≡ 48 ∷ []

-- line k for a plan of n doors: the cost, the start, and a line for each step; `open` before step i is the sum of 2^t over the tasks t of d i .. d (n - 1). Byte 10 ends it
abbrev pub line_text : Sheet → ℕ → ℕ → ℕ → (ℕ → ℕ) → ℕ → List ℕ
line_text S c s n d zero = ascii "cost " ++ decimal c ++ (10 ∷ [])
line_text S c s n d (suc zero) = ascii "start " ++ decimal s ++ (10 ∷ [])
line_text S c s n d (suc (suc i)) =
    ascii "door " ++ decimal (d i) ++ ascii " task " ++ decimal (S.task (d i)) ++ ascii " open " ++ decimal (sum_from i n (λ j. 2 ^ S.task (d j))) ++ (10 ∷ [])

-- what is printed for the sheet b with these cells, by what planning into some 56 bytes answers and leaves there
pub record PrintingHolds (b cells : List ℕ) : Type 0 where
  -- where it answers, N + 2 lines
  pub answered : (room : List ℕ) (c : ℕ) → length room ≡ 56 → (plan b cells room).answer ≡ accepted c
      → printed_with (length cells) b
      ≡ flat_map_below (tasks_stated b + 2) (line_text (decode b) c (start_stated (plan b cells room).bytes) (tasks_stated b) (door_stated (plan b cells room).bytes))
  -- where it refuses, one line
  pub refuses : (room : List ℕ) (r : ℕ) → length room ≡ 56 → (plan b cells room).answer ≡ refused r
      → printed_with (length cells) b ≡ ascii "refused " ++ decimal r ++ (10 ∷ [])
  -- the text is put to the front of a buffer that has room for it, and nothing is put into another
  pub fits : (buffer : List ℕ) → length (printed_with (length cells) b) ≤ length buffer
      → ((print b cells buffer).written ≡ length (printed_with (length cells) b))
      × ((print b cells buffer).bytes ≡ printed_with (length cells) b ++ drop (length (printed_with (length cells) b)) buffer)
  pub does_not_fit : (buffer : List ℕ) → length buffer < length (printed_with (length cells) b)
      → ((print b cells buffer).written ≡ 0) × ((print b cells buffer).bytes ≡ buffer)
  -- the cells are left as that planning leaves them, whatever buffer the text is put into
  pub cells_left : (buffer room : List ℕ) → length room ≡ 56 → (print b cells buffer).cells ≡ (plan b cells room).cells

-- ---- all of it

pub record FiguresHold : Type 0 where
  -- a number of k bytes is the sum of byte j times 256^j; w is in two's complement; and what an integer adds to a load, less what it takes away, is that integer
  pub numbers : (k : ℕ) (b : List ℕ) (i : ℕ) → number_at k b i ≡ sum_below k (λ j. get_or b (i + j) 0 * 256 ^ j)
  pub signs : (n : ℕ) → n < 65536 → (n < 32768 → signed 2 n ≡ pos n) × (32768 ≤ n → signed 2 n +ℤ pos 65536 ≡ pos n)
  pub parts : (z : ℤ) → z +ℤ pos (down z) ≡ pos (up z)
  -- every field of a sheet stands where document 01 puts it
  pub stands_at : (b : List ℕ) → StandsAt b (decode b)
  -- each call is refused with its numbers, and accepts, exactly where document 01 says so
  pub reading : (b : List ℕ) → AnswersBy sheet_order (SheetApplies b) (read_sheet b)
  pub planning : (b cells buffer : List ℕ) → AnswersBy planning_order (PlanningApplies b (length cells) (length buffer)) (plan b cells buffer).answer
  pub validating : (b q : List ℕ) → AnswersBy validating_order (ValidatingApplies b q) (validate b q)
  pub writing_a_plan : (n start : ℕ) (doors : List ℕ) (c : ℕ) (buffer : List ℕ)
      → AnswersBy writing_order (WritingApplies n (length doors) (length buffer)) (write_plan n start doors c buffer).answer
  pub reading_a_plan : (n lent : ℕ) (q : List ℕ) → AnswersBy reading_plan_order (ReadingPlanApplies n lent q) (read_plan n lent q)
  -- a sheet gets 17 only if no numbering of the tasks gives every sender a lower number than its receiver
  pub no_numbering : (b : List ℕ) → status (read_sheet b) ≡ 17
      → (f : ℕ → ℕ) → ((i : ℕ) → i < (decode b).pairs → f ((decode b).sender i) < f ((decode b).receiver i)) → ⊥
  -- what reading a plan answers: the start, of the doors lent the first n as stated and 0 from n on, and the cost
  pub plan_read : (n lent : ℕ) (q : List ℕ) (x : PlanRead) → read_plan n lent q ≡ accepted x → ReadAs n lent q x
  -- with twelve doors lent, as document 01 has it, 12 is for N outside 1 to 12 alone
  pub writing_twelve : (n start : ℕ) (doors : List ℕ) (c : ℕ) (buffer : List ℕ) → length doors ≡ 12
      → ((write_plan n start doors c buffer).answer ≡ refused 12) ↔ (Between 1 12 n → ⊥)
  pub reading_twelve : (n : ℕ) (q : List ℕ) → (read_plan n 12 q ≡ refused 12) ↔ (Between 1 12 n → ⊥)
  -- a sheet whose entries and places are right has from 66 to 9,638 bytes: with the fewest entries 66, with the most 9,638
  pub lengths : (b : List ℕ) → RightEntries b → RightPlaces b → Between 66 9638 (length b)
  pub shortest : (b : List ℕ) → RightPlaces b → tasks_stated b ≡ 1 → doors_stated b ≡ 1 → starts_stated b ≡ 1 → pairs_stated b ≡ 0 → rules_stated b ≡ 0 → points_stated b ≡ 1
      → distances_stated b ≡ 1 → length b ≡ 66
  pub longest : (b : List ℕ) → RightPlaces b → tasks_stated b ≡ 12 → doors_stated b ≡ 64 → starts_stated b ≡ 16 → pairs_stated b ≡ 32 → rules_stated b ≡ 32 → points_stated b ≡ 64
      → distances_stated b ≡ 4096 → length b ≡ 9638
  -- what a route costs, in plain sums: of every route whose tasks are the sheet's and differ, and which has such L
  pub costs_sum : (S : Sheet) (p n : ℕ) (d L : ℕ → ℕ) → OwnTasks S n d → LoadsAre S n d L → cost S p (map_below n d) ≡ route_sum S p n d L
  pub sums : (b : List ℕ) → status (read_sheet b) ≡ 0 → SumsHold b
  -- what is printed; and the print program loses nothing by reading at most 9,639 bytes
  pub decimals : (n : ℕ) → IsDecimal n (decimal n)
  pub printing : (b cells : List ℕ) → PrintingHolds b cells
  pub cut_input : (input : List ℕ) → printed input ≡ printed_with 4096 input
