-- Door after door to the cheapest completion: what is left after the next door, and that nothing is left at the end. Assumes nothing.
use Rattle.model.proofs.Basics.{◌≡◌, sym, ap, ◌∙◌, ◌≢◌, List, [], ◌∷◌, ℕ, ◌+◌, ◌≤◌, ◌<◌, mul-le-mul_right, arith, get_or}
use Rattle.model.specs.{without, cost_to_go, cheapest_completion, no_doors, with_door, with_doors, max_doors, InRange}
use Rattle.model.specs.Sheet.{Sheet}
use Rattle.model.specs.PlanInHand.{PlanInHand}
use Rattle.model.proofs.Theory.Completions.{completions_none}
use Rattle.model.proofs.Theory.FirstTask.{allow_without}
use Rattle.kernel_sheet.specs.declared.Numbers.{Numbers}
use Rattle.kernel_bellman.proofs.Bellman.{without_lt}
use Rattle.kernel_complete.specs.Completed.{best_doors, next_door, completed, Completable}
use Rattle.kernel_complete.proofs.NextDoor.{NextIs}
use Rattle.kernel_complete.proofs.Choosing.{next_is}

-- with nothing open no door is left
best_none : (S : Sheet) → InRange S → (p : ℕ) → best_doors S 0 p ≡ []
unfolding best_doors cheapest_completion
best_none S R p = rw (completions_none S R)

-- the doors are the next, and those from where it leads
best_next : {S : Sheet} {K p d : ℕ} → NextIs S K p d → best_doors S K p ≡ d ∷ best_doors S (without K (S.task d)) (S.depart d)
unfolding best_doors
best_next n = rw (n.begins, n.goes_on)

-- what the loop keeps: the list that is left can be completed, and the plan with the doors left to add is the one asked for
pub record Towards (S : Sheet) (x : Numbers) (columns : List ℕ) (K p : ℕ) (cells : List ℕ) (plan : PlanInHand) (left at : ℕ) : Type 0 where
  pub open_still : Completable S x columns left at cells
  pub to_add : with_doors plan (best_doors S left at) ≡ completed S K p

pub no_door : {S : Sheet} {x : Numbers} {columns : List ℕ} {K p : ℕ} {cells : List ℕ} {plan : PlanInHand} {here : ℕ} → Completable S x columns K p cells
    → plan ≡ no_doors here → here ≡ cost_to_go S K p → Towards S x columns K p cells plan K p
unfolding completed
no_door {S} {x} {columns} {K} {p} C e h = record { open_still = C; to_add = ap (λ (y : PlanInHand). with_doors y (best_doors S K p)) (e ∙ ap no_doors h) }

module _ {S : Sheet} {x : Numbers} {columns : List ℕ} {K p : ℕ} {cells : List ℕ} {plan : PlanInHand} {left at : ℕ} (t : Towards S x columns K p cells plan left at) where
  -- d is the door that the code finds
  module _ {d : ℕ} (some : left ≢ 0) (e : d ≡ next_door S left at) where
    next : NextIs S left at d
    next = rw e (next_is t.open_still some)

    pub door_in_lem : d < max_doors
    door_in_lem = omega (arith, next.stands_in_sheet, t.open_still.prepared.workable.counts.doors)

    task_is : get_or x.doors.task d 0 ≡ S.task d
    task_is = t.open_still.prepared.numbers.doors.task d next.stands_in_sheet

    depart_is : get_or x.doors.depart d 0 ≡ S.depart d
    depart_is = t.open_still.prepared.numbers.doors.depart d next.stands_in_sheet

    -- left' is the list without its task
    module _ {left' : ℕ} (hl : left' ≡ without left (get_or x.doors.task d 0)) where
      pub fewer_left : left' < left
      fewer_left = rw (hl, task_is) (without_lt S left (S.task d) next.can)

      pub one_door : {plan' : PlanInHand} → plan' ≡ with_door plan d → Towards S x columns K p cells plan' left' (get_or x.doors.depart d 0)
      one_door hx = record {
        open_still = record {
          prepared = t.open_still.prepared;
          list = omega (arith, fewer_left, t.open_still.list);
          allowed = rw (hl, task_is) (allow_without S left (S.task d) t.open_still.allowed next.can);
          point = rw depart_is (t.open_still.prepared.workable.plannable.ranges.depart d next.stands_in_sheet);
          room = let l : left' + 1 ≤ left + 1 = omega (arith, fewer_left) in omega (arith, mul-le-mul_right S.points l, t.open_still.room);
          known = λ J q l a m. t.open_still.known J q (omega (arith, fewer_left)) a m;
        };
        to_add = rw (hx, hl, task_is, depart_is) (ap (with_doors plan) (sym (best_next next)) ∙ t.to_add);
      }

  pub all_doors : left ≡ 0 → plan ≡ completed S K p
  all_doors e = sym (ap (with_doors plan) (ap (λ (n : ℕ). best_doors S n at) e
      ∙ best_none S t.open_still.prepared.workable.plannable.ranges at)) ∙ t.to_add
