-- Of a sheet that reads: solutions, completions, plans that are judged, the plan and the cells that planning leaves all cost what the plain sums say, as no leg has a load
-- below zero; and every essential list is met along some solution. Assumes nothing.
use Rattle.model.proofs.Basics.{◌≡◌, refl, sym, ap, ◌∙◌, subst, ◌↔◌, Bool, true, false, List, [], ◌∷◌, map, ℕ, ◌+◌, ◌*◌, ◌^◌, ◌≤◌, ◌<◌, arith}
use Rattle.model.proofs.Basics.{eqb, lit≤, length, get_or, drop, lt_of_lt_of_le, digits_lt, eqb-true, eqb-false, eq-eqb, ne_eqb}
use Rattle.model.specs.{Sheet.Sheet, map_below, bit, full, mask_of, is_order, keeps_pairs_within, is_order_within, essential, pairs_allow, cost}
use Rattle.model.specs.{Plan, in_sheet, is_solution, round_cost, plan_cost, is_completion, decode, decode_by, layout_of, entries, line_at, read_sheet, validate, plan, carried_out, status}
use Rattle.model.specs.{accepted, refused, refuse_if, refuse_first, ◌when◌, ill_formed, start_in, door_in, doors_in, cost_in, plan_start_at, plan_doors_at, plan_cost_at}
use Rattle.model.specs.{not_in_sheet, done_twice, breaks_pair, wrong_cost, route_tests, plan_tests}
use Rattle.model.specs.Demands.{LegsHold}
use Rattle.model.specs.Figures.{Between, Closed, tasks_stated, start_stated, door_stated, cost_stated, sum_from, CostsSum, door_of, SumsHold}
use Rattle.model.proofs.Tools.{Tests.and_left, Tests.and_right, Tests.by_test, Folds.length_map_below, Arrays.map_elements, Refusing.refused≢accepted}
use Rattle.model.proofs.TaskLists.Masks.{bit_none}
use Rattle.model.proofs.Theory.RouteSums.{order_own, open_sum, costs_by_sum}
use Rattle.model.proofs.Theory.{Solutions.solution, Solutions.solution_length, Solutions.solution_fits, Meanings.essential_means, EssentialOpen.essential_open}
use Rattle.model.proofs.Theory.{Completions.open_is, Cheapest.cheapest_solution, Cheapest.to_go_attained, Driving.some_completion}
use Rattle.model.proofs.{Bytes.Ranges.in_range, Calls.PlanFigures.stated_start, Calls.PlanFigures.stated_doors}
use Rattle.model.proofs.Calls.{Reading.Reads, Reading.reads_then, Reading.counts_read, Demands.legs_hold, Room.gets_0, Validating.judged_solution, Interface.reads_sheet}
use Rattle.model.proofs.Calls.Planning.{accepted_planned, accepted_plan, planned, plannable, cell_shown, cell_kept}

-- a closed list is one that the pairs allow, and from 1 on an essential one
closed_essential : (S : Sheet) (K : ℕ) → 1 ≤ K → Closed S K → essential S K ≡ true
unfolding bit
closed_essential S K g c = (essential_means S K).1 ((λ z. omega arith), λ i l m. eq-eqb _ 1 (c i l (eqb-true _ 1 m)))

closed_allowed : (S : Sheet) (K : ℕ) → Closed S K → pairs_allow S K ≡ true
unfolding pairs_allow
closed_allowed S K c = by_test (eqb K 0) (λ w. rw w) (λ w. rw (w, closed_essential S K (omega (arith, eqb-false K 0 w)) c))

-- and nothing else is
allowed_closed : (S : Sheet) (K : ℕ) → pairs_allow S K ≡ true → Closed S K
unfolding pairs_allow bit
allowed_closed S K a i l m = by_test (eqb K 0)
    (λ w. absurd (omega (arith, m, ap (λ (x : ℕ). bit x (S.sender i)) (eqb-true K 0 w), bit_none (S.sender i))))
    (λ w. eqb-true _ 1 (((essential_means S K).0 (rw w at a)).1 i l (eq-eqb _ 1 m)))

-- what 30 to 33 do not refuse has passed their tests
passed : (t u v w x : Bool) (c : ℕ)
    → ((r : ℕ) → Between 30 33 r → refuse_first ((30 when t) ∷ (31 when u) ∷ (32 when v) ∷ (33 when w) ∷ (34 when x) ∷ []) (accepted c) ≡ refused r → ⊥)
    → (t ≡ false) × (u ≡ false) × (v ≡ false) × (w ≡ false)
passed true u v w x c h = absurd (h 30 (lit≤ tt, lit≤ tt) refl)
passed false true v w x c h = absurd (h 31 (lit≤ tt, lit≤ tt) refl)
passed false false true w x c h = absurd (h 32 (lit≤ tt, lit≤ tt) refl)
passed false false false true x c h = absurd (h 33 (lit≤ tt, lit≤ tt) refl)
passed false false false false x c h = (refl, refl, refl, refl)

module _ (b : List ℕ) (R : Reads b) where
  abbrev S : Sheet
  S = decode b

  H : LegsHold S
  H = legs_hold b R

  -- a solution, by its places
  by_places : (n : ℕ) (d : ℕ → ℕ) (s : ℕ) → is_solution S s (map_below n d) ≡ true → CostsSum S (S.start_point s) n d (round_cost S s (map_below n d))
  unfolding round_cost
  by_places n d s h = costs_by_sum S n d (order_own S n d (full S.tasks) (solution S s (map_below n d) h).order)
      (λ i l. H.of_solutions s (map_below n d) h i (rw length_map_below l)) (S.start_point s)

  of_solution : (s : ℕ) (ds : List ℕ) → is_solution S s ds ≡ true → CostsSum S (S.start_point s) (length ds) (door_of ds) (round_cost S s ds)
  of_solution s ds h = subst (λ (xs : List ℕ). CostsSum S (S.start_point s) (length ds) (door_of ds) (round_cost S s xs)) (map_elements ds)
      (by_places (length ds) (door_of ds) s (rw map_elements h))

  -- a completion
  of_completion : (K p : ℕ) (ds : List ℕ) → K < 2 ^ S.tasks → Closed S K → is_completion S K ds ≡ true → CostsSum S p (length ds) (door_of ds) (cost S p ds)
  unfolding is_completion is_order_within
  of_completion K p ds l c h =
      let o : is_order S.tasks K (map S.task ds) ≡ true = and_left _ (keeps_pairs_within S K (map S.task ds)) (and_right (in_sheet S ds) _ h) in
      subst (λ (xs : List ℕ). CostsSum S p (length ds) (door_of ds) (cost S p xs)) (map_elements ds)
      (costs_by_sum S (length ds) (door_of ds) (order_own S (length ds) (door_of ds) K (rw map_elements o))
      (λ i m. rw map_elements (H.of_completions K ds l (closed_allowed S K c) h i m)) p)

  of_list : (K : ℕ) (ds : List ℕ) → K < 2 ^ S.tasks → is_completion S K ds ≡ true → K ≡ sum_from 0 (length ds) (λ j. 2 ^ S.task (door_of ds j))
  unfolding is_completion is_order_within
  of_list K ds l h =
      let o : is_order S.tasks K (map S.task ds) ≡ true = and_left _ (keeps_pairs_within S K (map S.task ds)) (and_right (in_sheet S ds) _ h) in
      sym (open_is S (plannable b R).ranges ds K l h) ∙ ap (λ (xs : List ℕ). mask_of (map S.task xs)) (sym (map_elements ds))
      ∙ open_sum S (length ds) (door_of ds) (order_own S (length ds) (door_of ds) K (rw map_elements o)) 0

  -- a plan that 30 to 33 do not refuse is a solution
  of_judged : (q : List ℕ) → ((r : ℕ) → Between 30 33 r → validate b q ≡ refused r → ⊥)
      → (c : ℕ) × CostsSum S (S.start_point (start_stated q)) (tasks_stated b) (door_stated q) c
      × ((validate b q ≡ refused 34) ↔ (cost_stated (tasks_stated b) q ≡ c → ⊥))
  unfolding validate plan_tests route_tests doors_in wrong_cost decode decode_by entries line_at start_in door_in cost_in plan_start_at plan_doors_at plan_cost_at
  of_judged q h =
      let N : ℕ = tasks_stated b in
      let ds : List ℕ = map_below N (door_stated q) in
      let a = reads_then b (refuse_first (plan_tests S q) (accepted (cost_in N q))) R in
      let p = passed (ill_formed N q) (not_in_sheet S (start_stated q) ds) (done_twice S (map S.task ds)) (breaks_pair S (map S.task ds))
      (wrong_cost S (start_stated q) ds (cost_stated N q)) (cost_stated N q) (λ r k e. h r k (a ∙ e)) in
      let s = judged_solution S (in_range (layout_of b) S R.passed_tests.ranges) (start_stated q) ds (length_map_below N _) p.1 p.2 p.3 in
      let v : validate b q ≡ refuse_if (wrong_cost S (start_stated q) ds (cost_stated N q)) 34 (accepted (cost_stated N q)) = a ∙ rw (p.0, p.1, p.2, p.3) refl in (
        round_cost S (start_stated q) ds,
        by_places N (door_stated q) (start_stated q) s,
        (
          (λ e. by_test (eqb (cost_stated N q) (round_cost S (start_stated q) ds))
              (λ w. let a : validate b q ≡ accepted (cost_stated N q) = v ∙ rw w refl in absurd (refused≢accepted (sym e ∙ a)))
              (λ w. eqb-false _ _ w)),
          (λ n. v ∙ rw (ne_eqb (cost_stated N q) (round_cost S (start_stated q) ds) n) refl),
        ),
      )

  -- the plan and the cells that planning leaves
  module _ (cells buffer : List ℕ) (c : ℕ) (e : (plan b cells buffer).answer ≡ accepted c) where
    x : Plan
    x = (accepted_planned b cells buffer c e).0

    after : plan b cells buffer ≡ carried_out S (accepted x) cells buffer
    unfolding x
    after = planned b cells buffer x (accepted_planned b cells buffer c e).1

    solves : is_solution S x.start x.doors ≡ true
    unfolding x
    solves = cheapest_solution S x (accepted_plan b (length cells) (length buffer) x (accepted_planned b cells buffer c e).1).1

    of_planned : CostsSum S (S.start_point (start_stated (plan b cells buffer).bytes)) (tasks_stated b) (door_stated (plan b cells buffer).bytes) c
    unfolding x decode decode_by entries line_at plan_cost
    of_planned =
        let T = solution S x.start x.doors solves in
        let fits = solution_fits S (counts_read b R) x.start x.doors T in
        let s : start_stated (plan b cells buffer).bytes ≡ x.start = rw after (stated_start S.tasks x.start x.doors (plan_cost S x) buffer fits.0) in
        let ds : map_below S.tasks (door_stated (plan b cells buffer).bytes) ≡ x.doors
        = rw after (stated_doors S.tasks x.start x.doors (plan_cost S x) buffer (solution_length S x.start x.doors T) fits.1) in
        rw s (subst (λ (v : ℕ). CostsSum S (S.start_point x.start) (tasks_stated b) (door_stated (plan b cells buffer).bytes) v)
        (ap (round_cost S x.start) ds ∙ (accepted_planned b cells buffer c e).2)
        (by_places S.tasks (door_stated (plan b cells buffer).bytes) x.start (rw ds solves)))

    of_cell : (K p : ℕ) → K < 2 ^ S.tasks → Closed S K → p < S.points
        → (ds : List ℕ) × (is_completion S K ds ≡ true) × CostsSum S p (length ds) (door_of ds) (get_or (plan b cells buffer).cells (K * S.points + p) 0)
    of_cell K p l k m =
        let t = to_go_attained S K p (some_completion S (plannable b R) K) in
        let room = (gets_0 b cells buffer R).0 (ap status e) in
        let shown : get_or (plan b cells buffer).cells (K * S.points + p) 0 ≡ cost S p t.0
        = rw after (cell_shown S cells K p m l (lt_of_lt_of_le (digits_lt l m) room.0) (closed_allowed S K k)) ∙ sym t.2 in
        (t.0, t.1, rw shown (of_completion K p t.0 l k t.1))

    of_other : (K p : ℕ) → K < 2 ^ S.tasks → (Closed S K → ⊥) → p < S.points
        → get_or (plan b cells buffer).cells (K * S.points + p) 0 ≡ get_or cells (K * S.points + p) 0
    of_other K p l n m =
        let room = (gets_0 b cells buffer R).0 (ap status e) in
        rw after (cell_kept S cells K p m l (lt_of_lt_of_le (digits_lt l m) room.0)
        (by_test (pairs_allow S K) (λ w. absurd (n (allowed_closed S K w))) (λ w. w)))

  -- the list that is open at step i of a solution, as a number
  open_number : (s : ℕ) (ds : List ℕ) → is_solution S s ds ≡ true → (i : ℕ)
      → mask_of (map S.task (drop i ds)) ≡ sum_from i S.tasks (λ j. 2 ^ S.task (door_of ds j))
  open_number s ds h i =
      let T = solution S s ds h in
      let own = order_own S (length ds) (door_of ds) (full S.tasks) (rw map_elements T.order) in
      ap (λ (xs : List ℕ). mask_of (map S.task (drop i xs))) (sym (map_elements ds)) ∙ open_sum S (length ds) (door_of ds) own i
      ∙ ap (λ (n : ℕ). sum_from i n (λ j. 2 ^ S.task (door_of ds j))) (solution_length S s ds T)

  -- every essential list is met
  met : (K : ℕ) → 1 ≤ K → K < 2 ^ S.tasks → Closed S K
      → (s : ℕ) × (ds : List ℕ) × (i : ℕ) × (is_solution S s ds ≡ true) × (i < S.tasks) × (K ≡ sum_from i S.tasks (λ j. 2 ^ S.task (door_of ds j)))
  met K g l c =
      let w = essential_open S (plannable b R) (counts_read b R).one_start K l (closed_essential S K g c) in
      (0, w.0, w.1, w.2, w.3, sym w.4 ∙ open_number 0 w.0 w.2 w.1)

pub sums_hold : (b : List ℕ) → status (read_sheet b) ≡ 0 → SumsHold b
sums_hold b e =
    let R : Reads b = reads_sheet b e in
    record {
      solutions = of_solution b R;
      completions = of_completion b R;
      completes = of_list b R;
      gets_34 = of_judged b R;
      planned = of_planned b R;
      cells = of_cell b R;
      other_cells = of_other b R;
      lists_met = met b R;
    }
