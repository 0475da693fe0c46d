-- What printing a plan asks (01, Sheet A and its neighbours). Assumes nothing.
use Rattle.std.specs.Prelude.{◌≡◌, true, List, ℕ, ◌≤◌, length}
use Rattle.model.specs.TaskList.{full}
use Rattle.model.specs.Plans.{Plan, plan_cost, is_completion}
use Rattle.model.specs.SheetLayout.{max_tasks, decode}
use Rattle.model.specs.PlanLayout.{max_plan_doors, start_in, doors_in, cost_in}
use Rattle.model.specs.Passing.{InRange}
use Rattle.view.specs.Views.{view_of, Viewed}

-- of the sheet b, the lines of steps: the layout holds, every number is in range, the tasks are no more than a sheet may have, and the doors, no more than a plan has, complete the full list
pub record Steps (b ds : List ℕ) : Type 0 where
  pub view : Viewed b (view_of b)
  pub ranges : InRange (decode b)
  pub few : (decode b).tasks ≤ max_tasks
  pub few_doors : length ds ≤ max_plan_doors
  pub completion : is_completion (decode b) (full (decode b).tasks) ds ≡ true

-- the plan for the sheet b that the bytes q hold
unfoldable pub plan_in : List ℕ → List ℕ → Plan
plan_in b q = record { start = start_in q; doors = doors_in (decode b).tasks q }

-- the lines of a plan: those of its steps, and the cost that the bytes hold is its cost
pub record Printable (b q : List ℕ) : Type 0 where
  pub steps : Steps b (plan_in b q).doors
  pub right : cost_in (decode b).tasks q ≡ plan_cost (decode b) (plan_in b q)
