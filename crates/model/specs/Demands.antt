-- The three demands on the product, word for word and as three records over the definitions, and the same as the C interface shows them: by what a call returns
-- and by what it leaves in the places that it was lent. `demand_1` to `demand_3` and `demand_1_returned` to `demand_3_returned` prove them. Demand 3 stands as 02,
-- Req 03, restates it. Assumes nothing.
-- An answer is `accepted` or `refused`. Every definition is a total function of any bytes and any numbers, so every call ends and leans on no check made by its caller.
use Rattle.std.specs.Prelude.{◌≡◌, ◌⊎◌, ◌↔◌, true, false, List, map, ℕ, ◌+◌, ◌*◌, ◌^◌, ◌≤◌, ◌<◌, T, length, get_or, take, drop}
use Rattle.std.proofs.Math.Pow.{are_bytes}
use Rattle.std.specs.Int.Signed.{non_neg}
use Rattle.model.specs.TaskList.{mask_of}
use Rattle.model.specs.Sheet.{Sheet}
use Rattle.model.specs.Orders.{is_admissible, pairs_allow}
use Rattle.model.specs.Cost.{load, cost}
use Rattle.model.specs.Plans.{is_solution, round_cost, is_completion}
use Rattle.model.specs.Answer.{refused, accepted, status, placed_number}
use Rattle.model.specs.SheetLayout.{decode}
use Rattle.model.specs.Faults.{Counts, read_sheet, tasks_left, points_left}
use Rattle.model.specs.PlanLayout.{max_plan_doors, plan_bytes, write_plan, PlanRead, read_plan, start_left, doors_left, cost_left}
use Rattle.model.specs.Validating.{validate}
use Rattle.model.specs.Planning.{plan}
use Rattle.model.specs.Passing.{Passes, LoadsHold, SomeTooLight}

-- ---- Demand 1. "A task sheet, whole, torn or stray bytes, is read or refused with one of the numbers 10 to 17. Planning may also be refused with 20 or 21,
-- judging with 30 to 34. Every call ends, leans on no check made by its caller, and on refusal changes no byte or cell it was lent."

-- one of the sheet's own numbers
abbrev pub SheetNumber : ℕ → Type 0
SheetNumber r = (10 ≤ r) × (r ≤ 17)

-- some order of the tasks keeps every pair, and none does
abbrev pub SomeOrder : Sheet → Type 0
SomeOrder S = (ts : List ℕ) × (is_admissible S ts ≡ true)

abbrev pub NoOrder : Sheet → Type 0
NoOrder S = (ts : List ℕ) → is_admissible S ts ≡ true → ⊥

pub record Demand1 : Type 0 where
  -- a sheet is refused with one of 10 to 17
  pub reading : (b : List ℕ) (r : ℕ) → read_sheet b ≡ refused r → SheetNumber r
  -- or it is read, with N and P: exactly if it is laid out as it should be, some order of the tasks keeps every pair, and no essential list has a load below zero
  pub reads_iff : (b : List ℕ)
      → (read_sheet b ≡ accepted (record { tasks = (decode b).tasks; points = (decode b).points }))
      ↔ (Passes b × SomeOrder (decode b) × LoadsHold (decode b))
  -- planning may also be refused with 20 or 21; on refusal no cell and no byte changes
  pub planning : (b cells buffer : List ℕ) (r : ℕ) → (plan b cells buffer).answer ≡ refused r
      → (SheetNumber r ⊎ ((r ≡ 20) ⊎ (r ≡ 21))) × ((plan b cells buffer).cells ≡ cells) × ((plan b cells buffer).bytes ≡ buffer)
  -- judging may also be refused with 30 to 34
  pub judging : (b q : List ℕ) (r : ℕ) → validate b q ≡ refused r → SheetNumber r ⊎ ((30 ≤ r) × (r ≤ 34))
  -- planning and judging read first: what reading refuses they refuse, with the same number
  pub reads_first : (b : List ℕ) (r : ℕ) → read_sheet b ≡ refused r → (cells buffer q : List ℕ) → ((plan b cells buffer).answer ≡ refused r) × (validate b q ≡ refused r)
  -- writing a plan is refused with 12 or 21, and then no byte changes; reading one with 12 or 30
  pub writing_a_plan : (n start : ℕ) (doors : List ℕ) (c : ℕ) (buffer : List ℕ) (r : ℕ) → (write_plan n start doors c buffer).answer ≡ refused r
      → ((r ≡ 12) ⊎ (r ≡ 21)) × ((write_plan n start doors c buffer).bytes ≡ buffer)
  pub reading_a_plan : (n lent : ℕ) (q : List ℕ) (r : ℕ) → read_plan n lent q ≡ refused r → (r ≡ 12) ⊎ (r ≡ 30)

-- ---- Demand 2. "A plan put before the judge with a sheet that reads is accepted only, and always, when it is well formed and is a solution in the sense of
-- (2.4) to (2.10) of document 000 with the cost of (2.12), as document 01 fits them to vans. A plan written and then read has its start, doors and cost again,
-- and bytes that read as a plan are those that writing it yields."

pub record Demand2 : Type 0 where
  -- accepted with cost c exactly if the bytes are those of a plan that is a solution and costs c
  pub accepted_iff : (b q : List ℕ) (c : ℕ) (counts : Counts) → are_bytes b ≡ true → are_bytes q ≡ true → read_sheet b ≡ accepted counts
      → (validate b q ≡ accepted c)
      ↔ ((s : ℕ) × (ds : List ℕ) × (is_solution (decode b) s ds ≡ true) × (c ≡ round_cost (decode b) s ds) × (q ≡ plan_bytes (decode b).tasks s ds c))
  -- what was written into any buffer with room for it reads as what was written, wherever as many doors are lent
  pub written_then_read : (n start : ℕ) (doors : List ℕ) (c : ℕ) (buffer : List ℕ) (lent : ℕ) → 1 ≤ n → n ≤ max_plan_doors → n ≤ length doors → n ≤ lent
      → start < 2 ^ 16 → ((i : ℕ) → i < n → get_or doors i 0 < 2 ^ 16) → c < 2 ^ 64 → 32 + 2 * n ≤ length buffer
      → (x : PlanRead) × (read_plan n lent (take (32 + 2 * n) (write_plan n start doors c buffer).bytes) ≡ accepted x)
      × (x.start ≡ start) × ((i : ℕ) → i < n → get_or x.doors i 0 ≡ get_or doors i 0) × (x.cost ≡ c)
  -- writing returns the length, and bytes beyond that stay
  pub rest_stays : (n start : ℕ) (doors : List ℕ) (c : ℕ) (buffer : List ℕ) → 1 ≤ n → n ≤ max_plan_doors → n ≤ length doors → 32 + 2 * n ≤ length buffer
      → ((write_plan n start doors c buffer).answer ≡ accepted (32 + 2 * n))
      × (drop (32 + 2 * n) (write_plan n start doors c buffer).bytes ≡ drop (32 + 2 * n) buffer)
  -- what reads as a plan is what writing that plan yields
  pub read_then_written : (n lent : ℕ) (q : List ℕ) (x : PlanRead) → are_bytes q ≡ true → read_plan n lent q ≡ accepted x
      → (buffer : List ℕ) → length buffer ≡ length q → (write_plan n x.start x.doors x.cost buffer).bytes ≡ q

-- ---- Demand 3. "For every sheet that passes 10 to 16, with room lent for work and plan and whatever stood in either before, planning refuses, with 17, exactly
-- when no order of the tasks keeps every pair. Otherwise the bytes written read as such a solution with its cost, and the cost answered is the same. Every other
-- solution of that sheet, from whichever start listed, costs at least as much, and one that costs the same has a higher start number, or the same start and, where
-- the doors first differ, a higher door number. And unless planning refuses, the work area then shows, for every open list that the pairs allow, the empty one too,
-- and for every point, the least cost of finishing from there; units will soon replan in mid-round from those figures."
-- 02, Req 03, restates it: "A van that picks up and then delivers can get 16, although the pair keeps the bad list from ever being open. From now on 16 is for a sheet
-- where some essential list has a load below zero. It is therefore tested after 17. Sheet A with E 2 and pair (1, 0) is now planned; without the pair it still gets 16.
-- Lists that are not essential may have a negative load, and no leg is ever costed with it. A sheet that passes 10 to 15 gets 17 exactly if no order keeps every pair;
-- one that then passes the new 16 is planned as demand 3 asks, whether or not the old 16 refused it."

-- "a sheet that passes 10 to 15", with room lent for work and plan: nothing is said of loads, nor of what stands in the cells or in the buffer
pub record Lent (b cells buffer : List ℕ) : Type 0 where
  pub bytes : are_bytes b ≡ true
  -- 10 to 15, in plain facts (specs/Passing.antt)
  pub passes : Passes b
  pub work_room : 2 ^ (decode b).tasks * (decode b).points ≤ length cells
  pub plan_room : 32 + 2 * (decode b).tasks ≤ length buffer

-- the doors of a plan that was read for the sheet b: as many as there are tasks
abbrev pub doors_of : List ℕ → PlanRead → List ℕ
doors_of b x = take (decode b).tasks x.doors

-- the bytes of the plan that planning leaves: the first 32 + 2N of the buffer
abbrev pub plan_left : List ℕ → List ℕ → List ℕ → List ℕ
plan_left b cells buffer = take (32 + 2 * (decode b).tasks) (plan b cells buffer).bytes

-- what planning leaves where it does not refuse
pub record Cheapest (b cells buffer : List ℕ) : Type 0 where
  -- its bytes read as a plan, and the rest of the buffer stays
  pub written : PlanRead
  pub reads_as : read_plan (decode b).tasks max_plan_doors (plan_left b cells buffer) ≡ accepted written
  pub rest_stays : drop (32 + 2 * (decode b).tasks) (plan b cells buffer).bytes ≡ drop (32 + 2 * (decode b).tasks) buffer
  -- which is a solution, with its cost, and the cost answered is the same
  pub solution : is_solution (decode b) written.start (doors_of b written) ≡ true
  pub its_cost : written.cost ≡ round_cost (decode b) written.start (doors_of b written)
  pub answered : (plan b cells buffer).answer ≡ accepted written.cost
  -- every other solution costs at least as much
  pub none_cheaper : (s : ℕ) (ds : List ℕ) → is_solution (decode b) s ds ≡ true → written.cost ≤ round_cost (decode b) s ds
  -- and one that costs the same has a higher start, or the same start and a higher door where the doors first differ
  pub first_of_equals : (s : ℕ) (ds : List ℕ) → is_solution (decode b) s ds ≡ true → round_cost (decode b) s ds ≡ written.cost
      → ((s ≡ written.start) × (ds ≡ doors_of b written))
      ⊎ ((written.start < s)
      ⊎ ((written.start ≡ s) × ((i : ℕ) × (i < length (doors_of b written)) × (i < length ds) × (take i (doors_of b written) ≡ take i ds) × (get_or (doors_of b written) i 0 < get_or ds i 0))))
  -- for every list that the pairs allow and every point the cell shows a figure that some completion attains and none undercuts
  pub attained : (K p : ℕ) → K < 2 ^ (decode b).tasks → pairs_allow (decode b) K ≡ true → p < (decode b).points
      → (ds : List ℕ) × (is_completion (decode b) K ds ≡ true) × (cost (decode b) p ds ≡ get_or (plan b cells buffer).cells (K * (decode b).points + p) 0)
  pub not_undercut : (K p : ℕ) → K < 2 ^ (decode b).tasks → pairs_allow (decode b) K ≡ true → p < (decode b).points
      → (ds : List ℕ) → is_completion (decode b) K ds ≡ true → get_or (plan b cells buffer).cells (K * (decode b).points + p) 0 ≤ cost (decode b) p ds
  -- and the cells are otherwise as lent
  pub other_lists : (K p : ℕ) → K < 2 ^ (decode b).tasks → pairs_allow (decode b) K ≡ false → p < (decode b).points
      → get_or (plan b cells buffer).cells (K * (decode b).points + p) 0 ≡ get_or cells (K * (decode b).points + p) 0
  pub beyond : (i : ℕ) → 2 ^ (decode b).tasks * (decode b).points ≤ i → get_or (plan b cells buffer).cells i 0 ≡ get_or cells i 0
  pub as_many : length (plan b cells buffer).cells ≡ length cells

-- for all that are `Lent`: that is what `demand_3` asks
pub record Demand3 (b cells buffer : List ℕ) : Type 0 where
  -- reading and planning refuse with 17 exactly when no order of the tasks keeps every pair
  pub reading_refuses_17_iff : (read_sheet b ≡ refused 17) ↔ NoOrder (decode b)
  pub refuses_17_iff : ((plan b cells buffer).answer ≡ refused 17) ↔ NoOrder (decode b)
  -- and of the others with 16 exactly when some essential list has a load below zero
  pub reading_refuses_16_iff : (read_sheet b ≡ refused 16) ↔ (SomeOrder (decode b) × SomeTooLight (decode b))
  pub refuses_16_iff : ((plan b cells buffer).answer ≡ refused 16) ↔ (SomeOrder (decode b) × SomeTooLight (decode b))
  -- one that passes 16 too is planned: planning leaves the cheapest plan, whatever the old 16 says of the sheet
  pub planned : SomeOrder (decode b) → LoadsHold (decode b) → Cheapest b cells buffer
  -- so it does wherever it refuses with neither
  pub otherwise : ((plan b cells buffer).answer ≡ refused 17 → ⊥) → ((plan b cells buffer).answer ≡ refused 16 → ⊥) → Cheapest b cells buffer

-- "no leg is ever costed with it": along a solution, and along a completion of a list that the pairs allow, the load of the open list at every leg, which is that of the
-- doors still to come, is not below zero. `legs_hold` shows it for every sheet that reads
pub record LegsHold (S : Sheet) : Type 0 where
  pub of_solutions : (s : ℕ) (ds : List ℕ) → is_solution S s ds ≡ true → (i : ℕ) → i < length ds → T (non_neg (load S (mask_of (map S.task (drop i ds)))))
  pub of_completions : (K : ℕ) (ds : List ℕ) → K < 2 ^ S.tasks → pairs_allow S K ≡ true → is_completion S K ds ≡ true
      → (i : ℕ) → i < length ds → T (non_neg (load S (mask_of (map S.task (drop i ds)))))

-- ---- the demands by what is returned and left

-- Demand 1. `left_alone` says that after a refusal every place holds what it held before, whatever the call; the last five fields say it of each place
pub record Demand1Returned : Type 0 where
  -- reading returns 0 exactly for a sheet that is laid out as it should be, has an order of its tasks that keeps every pair, and no essential list with a load below zero; it
  -- then leaves N and P
  pub reads_iff : (b : List ℕ) → (status (read_sheet b) ≡ 0) ↔ (Passes b × SomeOrder (decode b) × LoadsHold (decode b))
  pub counts_left : (b : List ℕ) (t p : ℕ) → status (read_sheet b) ≡ 0
      → (tasks_left b t ≡ (decode b).tasks) × (points_left b p ≡ (decode b).points)
  -- planning returns 0 exactly if reading does and there is room for work and plan; for a sheet that reads it returns 20 exactly if there are fewer cells than needed,
  -- and 21 exactly if there are cells enough, but fewer bytes than a plan has
  pub plans_iff : (b cells buffer : List ℕ) → (status (plan b cells buffer).answer ≡ 0)
      ↔ ((status (read_sheet b) ≡ 0) × (2 ^ (decode b).tasks * (decode b).points ≤ length cells) × (32 + 2 * (decode b).tasks ≤ length buffer))
  pub few_cells_iff : (b cells buffer : List ℕ) → status (read_sheet b) ≡ 0 → (status (plan b cells buffer).answer ≡ 20) ↔ (length cells < 2 ^ (decode b).tasks * (decode b).points)
  pub few_bytes_iff : (b cells buffer : List ℕ) → status (read_sheet b) ≡ 0
      → (status (plan b cells buffer).answer ≡ 21) ↔ ((2 ^ (decode b).tasks * (decode b).points ≤ length cells) × (length buffer < 32 + 2 * (decode b).tasks))
  -- a call that does not return 0 returns one of its numbers
  pub reading : (b : List ℕ) → (status (read_sheet b) ≡ 0 → ⊥) → SheetNumber (status (read_sheet b))
  pub judging : (b q : List ℕ) → (status (validate b q) ≡ 0 → ⊥) → SheetNumber (status (validate b q)) ⊎ ((30 ≤ status (validate b q)) × (status (validate b q) ≤ 34))
  pub reading_a_plan : (n lent : ℕ) (q : List ℕ) → (status (read_plan n lent q) ≡ 0 → ⊥) → (status (read_plan n lent q) ≡ 12) ⊎ (status (read_plan n lent q) ≡ 30)
  -- and planning then leaves every cell and every byte, and writing every byte
  pub planning : (b cells buffer : List ℕ) → (status (plan b cells buffer).answer ≡ 0 → ⊥)
      → (SheetNumber (status (plan b cells buffer).answer) ⊎ ((status (plan b cells buffer).answer ≡ 20) ⊎ (status (plan b cells buffer).answer ≡ 21)))
      × ((plan b cells buffer).cells ≡ cells) × ((plan b cells buffer).bytes ≡ buffer)
  pub writing_a_plan : (n start : ℕ) (doors : List ℕ) (c : ℕ) (buffer : List ℕ) → (status (write_plan n start doors c buffer).answer ≡ 0 → ⊥)
      → ((status (write_plan n start doors c buffer).answer ≡ 12) ⊎ (status (write_plan n start doors c buffer).answer ≡ 21)) × ((write_plan n start doors c buffer).bytes ≡ buffer)
  -- planning and judging return what reading returns, where that is not 0
  pub reads_first : (b cells buffer q : List ℕ) → (status (read_sheet b) ≡ 0 → ⊥)
      → (status (plan b cells buffer).answer ≡ status (read_sheet b)) × (status (validate b q) ≡ status (read_sheet b))
  -- and every place then holds what it held before: *tasks and *points of reading
  pub reading_leaves : (b : List ℕ) (t p : ℕ) → (status (read_sheet b) ≡ 0 → ⊥) → (tasks_left b t ≡ t) × (points_left b p ≡ p)
  -- *cost of planning
  pub planning_leaves : (b cells buffer : List ℕ) (before : ℕ) → (status (plan b cells buffer).answer ≡ 0 → ⊥) → placed_number (plan b cells buffer).answer before ≡ before
  -- *written of writing a plan
  pub writing_leaves : (n start : ℕ) (doors : List ℕ) (c : ℕ) (buffer : List ℕ) (before : ℕ) → (status (write_plan n start doors c buffer).answer ≡ 0 → ⊥)
      → placed_number (write_plan n start doors c buffer).answer before ≡ before
  -- *start, every door and *cost of reading one
  pub reading_a_plan_leaves : (n : ℕ) (q : List ℕ) (start : ℕ) (doors : List ℕ) (c : ℕ) → (status (read_plan n (length doors) q) ≡ 0 → ⊥)
      → (start_left n (length doors) q start ≡ start) × (doors_left n q doors ≡ doors) × (cost_left n (length doors) q c ≡ c)
  -- *cost of judging
  pub judging_leaves : (b q : List ℕ) (before : ℕ) → (status (validate b q) ≡ 0 → ⊥) → placed_number (validate b q) before ≡ before

-- Demand 2
pub record Demand2Returned : Type 0 where
  -- 0 is returned and the cost c is left exactly if the bytes are those of a plan that is a solution and costs c
  pub accepted_iff : (b q : List ℕ) (c before : ℕ) → are_bytes b ≡ true → are_bytes q ≡ true → status (read_sheet b) ≡ 0
      → ((status (validate b q) ≡ 0) × (placed_number (validate b q) before ≡ c))
      ↔ ((s : ℕ) × (ds : List ℕ) × (is_solution (decode b) s ds ≡ true) × (c ≡ round_cost (decode b) s ds) × (q ≡ plan_bytes (decode b).tasks s ds c))
  -- a plan written returns 0 and leaves its length, and bytes beyond that stay
  pub writes : (n start : ℕ) (doors : List ℕ) (c : ℕ) (buffer : List ℕ) (before : ℕ) → 1 ≤ n → n ≤ max_plan_doors → n ≤ length doors → 32 + 2 * n ≤ length buffer
      → (status (write_plan n start doors c buffer).answer ≡ 0)
      × (placed_number (write_plan n start doors c buffer).answer before ≡ 32 + 2 * n)
      × (drop (32 + 2 * n) (write_plan n start doors c buffer).bytes ≡ drop (32 + 2 * n) buffer)
  -- its bytes read return 0, and leave its start, doors and cost
  pub written_then_read : (n start : ℕ) (doors : List ℕ) (c : ℕ) (buffer : List ℕ) (start' : ℕ) (doors' : List ℕ) (c' : ℕ)
      → 1 ≤ n → n ≤ max_plan_doors → n ≤ length doors → n ≤ length doors' → start < 2 ^ 16 → ((i : ℕ) → i < n → get_or doors i 0 < 2 ^ 16) → c < 2 ^ 64 → 32 + 2 * n ≤ length buffer
      → (status (read_plan n (length doors') (take (32 + 2 * n) (write_plan n start doors c buffer).bytes)) ≡ 0)
      × (start_left n (length doors') (take (32 + 2 * n) (write_plan n start doors c buffer).bytes) start' ≡ start)
      × ((i : ℕ) → i < n → get_or (doors_left n (take (32 + 2 * n) (write_plan n start doors c buffer).bytes) doors') i 0 ≡ get_or doors i 0)
      × (cost_left n (length doors') (take (32 + 2 * n) (write_plan n start doors c buffer).bytes) c' ≡ c)
  -- bytes whose reading returns 0 leave as many doors as are lent, and 0 in each from n on
  pub zeros_left : (n : ℕ) (q doors : List ℕ) → status (read_plan n (length doors) q) ≡ 0
      → (length (doors_left n q doors) ≡ length doors) × ((i : ℕ) → n ≤ i → i < length doors → get_or (doors_left n q doors) i 1 ≡ 0)
  -- and are those that writing what it left yields
  pub read_then_written : (n : ℕ) (q : List ℕ) (start : ℕ) (doors : List ℕ) (c : ℕ) (buffer : List ℕ) → are_bytes q ≡ true → status (read_plan n (length doors) q) ≡ 0 → length buffer ≡ length q
      → (write_plan n (start_left n (length doors) q start) (doors_left n q doors)
      (cost_left n (length doors) q c) buffer).bytes ≡ q

-- Demand 3. Planning returns `status` of its answer, and leaves `.cells` in the cells, `.bytes` in the buffer, and `placed_number` of the cost in *cost

-- what planning returns and leaves where it returns neither 17 nor 16
pub record CheapestReturned (b cells buffer : List ℕ) (before : ℕ) : Type 0 where
  -- 0 is returned
  pub returns : status (plan b cells buffer).answer ≡ 0
  -- in the buffer and in the cells is left what `Cheapest` says: the plan `written`, a solution with its cost, none cheaper, the first of equals; and every cell
  pub leaves : Cheapest b cells buffer
  -- *cost has the cost of that plan
  pub cost_is_left : placed_number (plan b cells buffer).answer before ≡ leaves.written.cost
  -- and its bytes, read wherever as many doors are lent, return 0 and leave its start, doors and cost
  pub read_back : (start : ℕ) (doors : List ℕ) (c : ℕ) → (decode b).tasks ≤ length doors
      → (status (read_plan (decode b).tasks (length doors) (plan_left b cells buffer)) ≡ 0)
      × (start_left (decode b).tasks (length doors) (plan_left b cells buffer) start ≡ leaves.written.start)
      × (take (decode b).tasks (doors_left (decode b).tasks (plan_left b cells buffer) doors) ≡ doors_of b leaves.written)
      × (cost_left (decode b).tasks (length doors) (plan_left b cells buffer) c ≡ leaves.written.cost)

-- for a sheet that passes 10 to 15, with room lent (`Lent`), whatever stood in the cells, in the buffer and in *cost before
pub record Demand3Returned (b cells buffer : List ℕ) (before : ℕ) : Type 0 where
  -- reading and planning return 17 exactly when no order of the tasks keeps every pair
  pub reading_refuses_17_iff : (status (read_sheet b) ≡ 17) ↔ NoOrder (decode b)
  pub refuses_17_iff : (status (plan b cells buffer).answer ≡ 17) ↔ NoOrder (decode b)
  -- and of the others 16 exactly when some essential list has a load below zero
  pub reading_refuses_16_iff : (status (read_sheet b) ≡ 16) ↔ (SomeOrder (decode b) × SomeTooLight (decode b))
  pub refuses_16_iff : (status (plan b cells buffer).answer ≡ 16) ↔ (SomeOrder (decode b) × SomeTooLight (decode b))
  -- and otherwise planning returns 0 and leaves the cheapest plan
  pub planned : SomeOrder (decode b) → LoadsHold (decode b) → CheapestReturned b cells buffer before
  pub otherwise : (status (plan b cells buffer).answer ≡ 17 → ⊥) → (status (plan b cells buffer).answer ≡ 16 → ⊥) → CheapestReturned b cells buffer before
