-- The plan is carried out: the cells show the costs to go, so the start chosen from them and the completion from there are the cheapest plan; what is written
-- is that plan. Assumes nothing.
use Rattle.model.proofs.Basics.{◌≡◌, sym, ap, ◌∙◌, List, some, ℕ, ◌≤◌, ◌<◌, length, get_or, le-ltb}
use Rattle.model.specs.{full, Plan, plan_cost, cheapest}
use Rattle.model.specs.{overwrite, accepted, decode, max_plan_doors, plan_length, plan_bytes, short_room, write_plan, cells_needed}
use Rattle.model.specs.PlanInHand.{PlanInHand}
use Rattle.model.specs.{few_cells, room_tests, plan_for, cells_after, plan, max_tasks}
use Rattle.model.proofs.Theory.Cheapest.{cheapest_solution}
use Rattle.model.proofs.Theory.Solutions.{solution, solution_length}
use Rattle.model.proofs.Bytes.PlanBytes.{tasks_fit, plan_cong, array_at, written_over}
use Rattle.model.proofs.Bytes.InHand.{Holds, with_doors_lem}
use Rattle.model.proofs.Calls.{Reading.reads_then, Planning.planned}
use Rattle.kernel_sheet.specs.declared.Numbers.{Numbers}
use Rattle.kernel_complete.specs.Completed.{best_doors, completed}
use Rattle.kernel_start.specs.Choosing.{first_start}
use Rattle.kernel_start.proofs.Starting.{round_from, chosen_below, cheapest_there}
use Rattle.planner.proofs.Sheets.{Roomy, FilledWith, row_from, row_shows}

-- the cells are filled, and s is what the code chose from the row of the full list
module _ {b cells buffer columns new : List ℕ} {x : Numbers} {k n s : ℕ} (R : Roomy b cells buffer) (F : FilledWith (decode b) x columns cells k n new)
    (chosen : some s ≡ first_start (decode b) (row_from k n new)) where
  -- ---- the doors

  route : List ℕ
  route = best_doors (decode b) (full (decode b).tasks) ((decode b).start_point s)

  best : Plan
  best = record { start = s; doors = route }

  is_cheapest : (cheapest (decode b) ≡ some best) × (plan_cost (decode b) best ≡ round_from (decode b) s)
  unfolding best route best_doors
  is_cheapest = cheapest_there (decode b) _ (row_shows F) chosen F.prepared.workable.plannable

  route_length : length route ≡ (decode b).tasks
  unfolding best
  route_length = solution_length (decode b) s route (solution (decode b) s route (cheapest_solution (decode b) best is_cheapest.0))

  -- ---- the answer, the cells and the bytes

  carried : plan b cells buffer ≡ record {
    answer = accepted (plan_cost (decode b) best);
    cells = cells_after (decode b) cells;
    bytes = overwrite (plan_bytes (decode b).tasks s route (plan_cost (decode b) best)) buffer;
  }
  unfolding plan_for room_tests few_cells short_room best
  carried = planned b cells buffer best (reads_then b _ R.reads
      ∙ rw (le-ltb (length cells) (cells_needed (decode b)) R.room, le-ltb (length buffer) (plan_length (decode b).tasks) R.wide, is_cheapest.0))

  -- y is the plan in hand
  module _ {y : PlanInHand} (hand : y ≡ completed (decode b) k (get_or x.starts s 0)) where
    few_doors : length route ≤ max_tasks
    few_doors = rw route_length F.prepared.workable.counts.tasks

    holds : Holds y (round_from (decode b) s) route
    unfolding completed route
    holds = rw (hand, F.list, F.prepared.numbers.starts s (chosen_below _ _ chosen)) (with_doors_lem (round_from (decode b) s) route few_doors)

    cost_is : y.cost ≡ plan_cost (decode b) best
    cost_is = holds.cost_is ∙ sym is_cheapest.1

    -- door i of the plan in hand is door i of the route
    door_is : (i : ℕ) → i < (decode b).tasks → get_or y.doors i 0 ≡ get_or route i 0
    door_is i l = rw holds.array (array_at max_plan_doors (length route) (λ i. get_or route i 0) i few_doors (rw route_length l))

    -- what the code writes of it, m being its number of tasks
    written : {m : ℕ} → m ≡ (decode b).tasks
        → (write_plan m s y.doors y.cost buffer).bytes ≡ overwrite (plan_bytes (decode b).tasks s route (plan_cost (decode b) best)) buffer
    written e =
        let c = F.prepared.workable.counts in
        ap (λ (m : ℕ). (write_plan m s y.doors y.cost buffer).bytes) e
        ∙ written_over (decode b).tasks s y.doors y.cost buffer
        (tasks_fit (decode b).tasks (length y.doors) c.one_task c.tasks (rw holds.size c.tasks)) R.wide
        ∙ ap (λ (bytes : List ℕ). overwrite bytes buffer)
        (plan_cong (decode b).tasks s y.doors route y.cost door_is ∙ ap (plan_bytes (decode b).tasks s route) cost_is)

    pub carried_out_lem : {m : ℕ} {bytes : List ℕ} → m ≡ (decode b).tasks → bytes ≡ (write_plan m s y.doors y.cost buffer).bytes
        → (accepted y.cost ≡ (plan b cells buffer).answer) × ((new ≡ (plan b cells buffer).cells) × (bytes ≡ (plan b cells buffer).bytes))
    carried_out_lem e w = rw carried (ap accepted cost_is, (F.is, w ∙ written e))
