-- A route as a whole: its legs and its charges are its cost, for each rule is charged with the list that is open at its door; and a
-- solution can be costed. Assumes nothing.
use Rattle.model.proofs.Basics.{◌≡◌, sym, ap, ap₂, ◌∙◌, true, false, cond, List, [], ◌∷◌, map, ℕ, ◌+◌, ◌^◌, ◌<◌, arith, eqb, ltb, get_or}
use Rattle.model.proofs.Basics.{length-map, are_bytes, pow_pos, ltb-true}
use Rattle.model.specs.{map_below, full, mask_of, rule_charge, cost, legs, charges_on, open_on, in_sheet, is_solution, round_cost, max_doors}
use Rattle.model.specs.Sheet.{Sheet}
use Rattle.model.specs.{layout_of, decode, CountsWithin, InRange, LeastCounts, LoadsHold}
use Rattle.model.proofs.Tools.Tests.{and_left, and_right}
use Rattle.model.proofs.Tools.Folds.{sum_cong, length_map_below, map_below_at}
use Rattle.model.proofs.TaskLists.OpenLists.{with_lt}
use Rattle.model.proofs.TaskLists.Counting.{order_once}
use Rattle.model.proofs.Theory.Charges.{cost_parts, charges_by_rule}
use Rattle.model.proofs.Theory.Bounds.{doors_once, route_fits}
use Rattle.model.proofs.Theory.OpenAlong.{solution_loads}
use Rattle.model.proofs.Theory.Solutions.{door_in_lem, SolutionTests, solution}
use Rattle.route.specs.Routes.{open_at, open_by, charges_with, Listable, ChargeableWith, Costable}
use Rattle.route.proofs.Listing.{open_on_lem}
use Rattle.route.proofs.Steps.{task_in}

-- ---- the lists along a route

module _ (S : Sheet) (R : InRange S) where
  mask_listed : (ds : List ℕ) → in_sheet S ds ≡ true → mask_of (map S.task ds) < 2 ^ S.tasks
  unfolding in_sheet
  mask_listed [] h = pow_pos S.tasks
  mask_listed (d ∷ ds) h =
      let in-it : ltb d S.doors ≡ true = and_left (ltb d S.doors) (in_sheet S ds) h in
      with_lt S.tasks (mask_of (map S.task ds)) (S.task d) (mask_listed ds (and_right (ltb d S.doors) (in_sheet S ds) h))
      (R.task d (ltb-true d S.doors in-it))

  -- are lists of the sheet's tasks
  on_listed : (x : ℕ) (ds : List ℕ) → in_sheet S ds ≡ true → open_on S ds x < 2 ^ S.tasks
  unfolding in_sheet
  on_listed x [] h = pow_pos S.tasks
  on_listed x (d ∷ ds) h = elim (eqb d x) as (λ t. cond t (mask_of (map S.task (d ∷ ds))) (open_on S ds x) < 2 ^ S.tasks)
      [ true ↦ mask_listed (d ∷ ds) h | false ↦ on_listed x ds (and_right (ltb d S.doors) (in_sheet S ds) h) ]

-- ---- the whole

module _ {S : Sheet} {p : ℕ} {ds ts : List ℕ} (C : Costable S p ds ts) where
  pub listable : Listable ds ts
  listable = record {
    size = rw C.tasks_are (length-map ds S.task);
    door = λ i l. omega (arith, door_in_lem S ds C.stands_in_sheet i l, C.doors);
    task = λ i l. omega (arith, task_in C i l, C.tasks);
  }

  -- `lists` is what the code has for the lists that are open at the doors
  module _ {lists : List ℕ} (e : lists ≡ map_below max_doors (open_by ds ts)) where
    place : (i : ℕ) → i < S.rules → S.rule_door i < max_doors
    place i l = omega (arith, C.ranges.rule_door i l, C.doors)

    list_is : (i : ℕ) → i < S.rules → get_or lists (S.rule_door i) 0 ≡ open_on S ds (S.rule_door i)
    list_is i l = rw (e, map_below_at max_doors (open_by ds ts) (S.rule_door i) 0 (place i l), C.tasks_are)
        (open_on_lem S ds (S.rule_door i))

    charges_are : charges_with S lists ≡ charges_on S ds
    unfolding charges_with
    charges_are =
        sum_cong S.rules _ _ (λ i l. ap (λ (K : ℕ). rule_charge S K i) (list_is i l))
        ∙ sym (charges_by_rule S C.least_counts ds (doors_once S ds (λ t. rw (← C.tasks_are) (C.once t))))

    pub chargeable : ChargeableWith S lists
    chargeable = record {
      door = λ i l. rw (e, length_map_below) (place i l);
      list = λ i l. rw (list_is i l) (on_listed S C.ranges (S.rule_door i) ds C.stands_in_sheet);
      fits = omega (arith, charges_are, cost_parts S p ds, C.fits);
    }

    pub route_is : {x y : ℕ} → x ≡ legs S p ds → y ≡ charges_with S lists → x + y ≡ cost S p ds
    route_is hx hy = ap₂ ◌+◌ hx (hy ∙ charges_are) ∙ sym (cost_parts S p ds)

-- ---- a solution

-- a solution of a sheet that 12 and 14 do not refuse, and of which no essential list has a load below zero, can be costed from its start
pub costable : (b : List ℕ) → are_bytes b ≡ true → CountsWithin (decode b) → InRange (decode b)
    → LeastCounts (layout_of b) (decode b) → LoadsHold (decode b) → (s : ℕ) {p : ℕ} {ds ts : List ℕ}
    → is_solution (decode b) s ds ≡ true → p ≡ (decode b).start_point s → ts ≡ map (decode b).task ds → Costable (decode b) p ds ts
unfolding open_at round_cost
costable b bytes n R c h s {p} {ds} {ts} e q t =
    let x : SolutionTests (decode b) s ds = solution (decode b) s ds e in
    record {
      ranges = R;
      least_counts = λ i l. (c i l).0;
      tasks = omega (arith, n.tasks);
      doors = n.doors;
      point = rw q (R.start s x.start);
      stands_in_sheet = x.doors;
      tasks_are = t;
      once = rw t (order_once (decode b).tasks (full (decode b).tasks) (map (decode b).task ds) x.order);
      loads = solution_loads (decode b) R h s ds e;
      fits = rw q (route_fits b bytes (omega (arith, n.tasks)) n.rules s ds e);
    }
