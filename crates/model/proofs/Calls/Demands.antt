-- The three demands on the product, as three theorems over the predicates of specs/: `demand_1`, `demand_2` and `demand_3`, each from the theorems on
-- its call. Assumes nothing.
use Rattle.model.proofs.Basics.{◌≡◌, refl, sym, ap, ◌∙◌, ◌⊎◌, inl, inr, ⊎_elim, ◌↔◌, true, List, some, ℕ, ◌+◌, ◌*◌, ◌^◌, ◌<◌}
use Rattle.model.proofs.Basics.{lt_of_lt_of_le, lit≤, length, get_or, take, drop, replicate, digits_lt}
use Rattle.model.specs.{Examples.sheet_a, no_order, pairs_allow, Plan, is_solution, plan_cost, cheapest, cost_to_go, refused, accepted}
use Rattle.model.specs.{decode, read_sheet, max_plan_doors, plan_length, plan_bytes, door_array, read_plan, validate, cells_needed}
use Rattle.model.specs.{or_no_order, plan_for, carried_out, plan, CountsWithin, too_light, unless_fault, LoadsHold, SomeTooLight}
use Rattle.model.specs.Demands.{Cheapest, Demand1, Demand2, Demand3, Lent, LegsHold, SomeOrder, NoOrder}
use Rattle.model.proofs.Tools.{Refusing.refused≢accepted, Refusing.accepted_value, Tests.by_test}
use Rattle.model.proofs.Theory.Cheapest.{cheapest_solution, cheapest_least, cheapest_first, to_go_attained, to_go_least}
use Rattle.model.proofs.Theory.{Solutions.solution, Solutions.solution_length, Solutions.solution_fits, Enumerations.has_order}
use Rattle.model.proofs.Theory.{Enumerations.no_order_iff, Enumerations.no_order_false, Ranks.RanksBefore, Ranks.DoorsBefore}
use Rattle.model.proofs.Theory.{Loads.loads_hold, Loads.hold_passes, Loads.some_light, Driving.some_completion, Bounds.round_small, OpenAlong.solution_loads}
use Rattle.model.proofs.Theory.{OpenAlong.completion_loads}
use Rattle.model.proofs.Bytes.PlanBytes.{length_is, tasks_fit, array_at, array_front, read_what_was_written, read_length}
use Rattle.model.proofs.Bytes.PlanBytes.{write_what_was_read, plan_over, written, written_whole, write_refusals, read_refusals}
use Rattle.model.proofs.Bytes.Entries.{counts_within}
use Rattle.model.proofs.Calls.Planning.{length_cells, cell_shown, cell_kept, cell_beyond, plan_for_lem, planned, plan_refused}
use Rattle.model.proofs.Calls.Planning.{refused_planned, plan_refusals, plannable, has_plan}
use Rattle.model.proofs.Calls.Reading.{Cleared, Reads, gets_17, gets_16, reads_then, counts_read, loads_read, accepted_reads}
use Rattle.model.proofs.Calls.Reading.{refused_reads, refused_alike}
use Rattle.model.proofs.Calls.{Validating.validate_iff, Validating.judge_refusals, Passing.passes_iff}
use Rattle.model.proofs.Acceptance.{reads_a}

-- ---- the proofs

pub demand_1 : Demand1
unfolding read_sheet validate plan plan_for
demand_1 = record {
  reading = λ b r e. ⊎_elim (λ h. h) (λ h. absurd (refused≢accepted (sym h.1))) (refused_reads b _ r e);
  reads_iff = λ b. (
    (λ e. let R : Reads b = (accepted_reads b _ _ e).0 in ((passes_iff b).0 R.passed_tests, has_order (decode b) R.ordered, loads_read b R)),
    (λ h. reads_then b _ (record {
      passed_tests = (passes_iff b).1 h.0;
      ordered = no_order_false (decode b) h.1.0 h.1.1;
      light = hold_passes (decode b) h.2;
    })),
  );
  planning = λ b cells buffer r e.
      let f = refused_planned b cells buffer r e in
      let left = plan_refused b cells buffer r f in
      (plan_refusals b (length cells) (length buffer) r f, ap (λ x. x.cells) left, ap (λ x. x.bytes) left);
  judging = λ b q r e. ⊎_elim inl (λ h. inr (judge_refusals b q r h.0 e)) (refused_reads b _ r e);
  reads_first = λ b r e cells buffer q.
      (ap (λ x. x.answer) (plan_refused b cells buffer r (refused_alike b _ _ _ r refl e)), refused_alike b _ _ _ r refl e);
  writing_a_plan = write_refusals;
  reading_a_plan = read_refusals;
}

pub demand_2 : Demand2
unfolding read_sheet
demand_2 = record {
  accepted_iff = λ b q c N hb hq e.
      let R : Reads b = (accepted_reads b _ N e).0 in
      validate_iff b q c hq R (λ s ds h. lt_of_lt_of_le (round_small b hb (counts_read b R) s ds h) (lit≤ tt));
  written_then_read = λ n start doors c buffer lent one few there here hs hd hc room.
      let w = written n start doors c buffer (tasks_fit n (length doors) one few there) (rw length_is room) in (
        record { start = start; doors = door_array lent n (λ i. get_or doors i 0); cost = c },
        rw (← length_is n) (ap (read_plan n lent) w.1 ∙ read_what_was_written n lent start doors c (tasks_fit n lent one few here) hs hd hc),
        refl,
        (λ i l. array_at lent n (λ i. get_or doors i 0) i here l),
        refl,
      );
  rest_stays = λ n start doors c buffer one few there room.
      let w = written n start doors c buffer (tasks_fit n (length doors) one few there) (rw length_is room) in
      rw (← length_is n) (w.0, w.2);
  read_then_written = λ n lent q x hq e buffer same.
      let l = read_length n lent q x e in
      written_whole n x.start x.doors x.cost buffer (rw l.2 l.0) (same ∙ l.1) ∙ write_what_was_read n lent q x e hq;
}

module _ (b cells buffer : List ℕ) (L : Lent b cells buffer) where
  tests : Cleared b
  tests = (passes_iff b).1 L.passes

  counts : CountsWithin (decode b)
  counts = counts_within b L.passes.counts

  -- with the room that is lent the sheet's own numbers are left
  answer_is : plan_for b (length cells) (length buffer) ≡ unless_fault b (or_no_order (cheapest (decode b)))
  unfolding cells_needed
  answer_is = plan_for_lem b (length cells) (length buffer) L.work_room (rw length_is L.plan_room)

  -- planning refuses exactly as its plan does
  refusal_is : (r : ℕ) → ((plan b cells buffer).answer ≡ refused r) ↔ (unless_fault b (or_no_order (cheapest (decode b))) ≡ refused r)
  refusal_is r = (
    (λ e. sym answer_is ∙ refused_planned b cells buffer r e),
    (λ e. ap (λ x. x.answer) (plan_refused b cells buffer r (answer_is ∙ e))),
  )

  there_is : Reads b → (x : Plan) × (or_no_order (cheapest (decode b)) ≡ accepted x)
  there_is R = let x = has_plan b R in (x.0, ap or_no_order x.1)

  module _ (reads : Reads b) where
    x : Plan
    x = (has_plan b reads).0

    is_cheapest : cheapest (decode b) ≡ some x
    unfolding x
    is_cheapest = (has_plan b reads).1

    after : plan b cells buffer ≡ carried_out (decode b) (accepted x) cells buffer
    after = planned b cells buffer x (answer_is ∙ reads_then b _ reads ∙ ap or_no_order is_cheapest)

    solves : is_solution (decode b) x.start x.doors ≡ true
    solves = cheapest_solution (decode b) x is_cheapest

    doors_are : take (decode b).tasks (door_array max_plan_doors (decode b).tasks (λ i. get_or x.doors i 0)) ≡ x.doors
    doors_are = array_front max_plan_doors (decode b).tasks x.doors counts.tasks
        (solution_length (decode b) x.start x.doors (solution (decode b) x.start x.doors solves))

    read_back : read_plan (decode b).tasks max_plan_doors (plan_bytes (decode b).tasks x.start x.doors (plan_cost (decode b) x))
        ≡ accepted (record { start = x.start; doors = door_array max_plan_doors (decode b).tasks (λ i. get_or x.doors i 0); cost = plan_cost (decode b) x })
    unfolding plan_cost
    read_back =
        let W : CountsWithin (decode b) = counts in
        let small = solution_fits (decode b) W x.start x.doors (solution (decode b) x.start x.doors solves) in
        let fit = tasks_fit (decode b).tasks max_plan_doors W.one_task W.tasks W.tasks in
        read_what_was_written (decode b).tasks max_plan_doors x.start x.doors (plan_cost (decode b) x) fit small.0 small.1
        (lt_of_lt_of_le (round_small b L.bytes W x.start x.doors solves) (lit≤ tt))

    -- the cell of a list and a point is lent
    cell_lent : (K p : ℕ) → K < 2 ^ (decode b).tasks → p < (decode b).points → K * (decode b).points + p < length cells
    cell_lent K p k l = lt_of_lt_of_le (digits_lt k l) L.work_room

    shown : (K p : ℕ) → K < 2 ^ (decode b).tasks → pairs_allow (decode b) K ≡ true → p < (decode b).points
        → get_or (plan b cells buffer).cells (K * (decode b).points + p) 0 ≡ cost_to_go (decode b) K p
    shown K p k a l = rw after (cell_shown (decode b) cells K p l k (cell_lent K p k l) a)

    over : (take (plan_length (decode b).tasks) (plan b cells buffer).bytes ≡ plan_bytes (decode b).tasks x.start x.doors (plan_cost (decode b) x))
        × (drop (plan_length (decode b).tasks) (plan b cells buffer).bytes ≡ drop (plan_length (decode b).tasks) buffer)
    over = rw after (plan_over (decode b).tasks x.start x.doors (plan_cost (decode b) x) buffer)

    cheapest_planned : Cheapest b cells buffer
    unfolding plan_cost
    cheapest_planned = record {
      written = record { start = x.start; doors = door_array max_plan_doors (decode b).tasks (λ i. get_or x.doors i 0); cost = plan_cost (decode b) x };
      reads_as = rw (← length_is (decode b).tasks) (ap (read_plan (decode b).tasks max_plan_doors) over.0 ∙ read_back);
      rest_stays = rw (← length_is (decode b).tasks) over.1;
      solution = rw doors_are solves;
      its_cost = rw doors_are;
      answered = rw after;
      none_cheaper = cheapest_least (decode b) x is_cheapest;
      first_of_equals = λ s ds h e. rw doors_are (rank (cheapest_first (decode b) x is_cheapest s ds h e));
      attained = λ K p k a l.
          let t = to_go_attained (decode b) K p (some_completion (decode b) (plannable b reads) K) in (t.0, t.1, t.2 ∙ sym (shown K p k a l));
      not_undercut = λ K p k a l ds h. rw shown (to_go_least (decode b) K p ds h);
      other_lists = λ K p k a l. rw after (cell_kept (decode b) cells K p l k (cell_lent K p k l) a);
      beyond = λ i l. rw after (cell_beyond (decode b) cells i counts.one_point l);
      as_many = rw after (length_cells (decode b) cells);
    }
      where
        rank : {s : ℕ} {ds : List ℕ} → (record { start = s; doors = ds } ≡ x) ⊎ RanksBefore x (record { start = s; doors = ds })
            → ((s ≡ x.start) × (ds ≡ x.doors))
            ⊎ ((x.start < s) ⊎ ((x.start ≡ s) × DoorsBefore x.doors ds))
        rank (inl e) = inl (ap (λ y. y.start) e, ap (λ y. y.doors) e)
        rank (inr (inl l)) = inr (inl l)
        rank (inr (inr h)) = inr (inr h)

pub demand_3 : (b cells buffer : List ℕ) → Lent b cells buffer → Demand3 b cells buffer
unfolding read_sheet
demand_3 b cells buffer L = record {
  reading_refuses_17_iff = gets_17 b _ (λ R. (_, refl)) cleared;
  refuses_17_iff = refuses_17;
  reading_refuses_16_iff = gets_16 b _ (λ R. (_, refl)) cleared;
  refuses_16_iff = refuses_16;
  planned = λ o l. cheapest_planned b cells buffer L (reads o l);
  otherwise = λ n m.
      let o = has_order (decode b) (by_test (no_order (decode b)) (λ w. absurd (n (refuses_17.1 ((no_order_iff (decode b)).0 w)))) (λ w. w)) in
      cheapest_planned b cells buffer L (reads o (loads_hold (decode b) (by_test (too_light (decode b))
      (λ w. absurd (m (refuses_16.1 (o, some_light (decode b) w))))
      (λ w. w))));
}
  where
    cleared : Cleared b
    cleared = tests b cells buffer L

    reads : SomeOrder (decode b) → LoadsHold (decode b) → Reads b
    reads o l = record { passed_tests = cleared; ordered = no_order_false (decode b) o.0 o.1; light = hold_passes (decode b) l }

    refuses_17 : ((plan b cells buffer).answer ≡ refused 17) ↔ NoOrder (decode b)
    refuses_17 =
        let i = refusal_is b cells buffer L 17 in
        let g = gets_17 b _ (there_is b cells buffer L) cleared in
        ((λ e. g.0 (i.0 e)), (λ h. i.1 (g.1 h)))

    refuses_16 : ((plan b cells buffer).answer ≡ refused 16) ↔ (SomeOrder (decode b) × SomeTooLight (decode b))
    refuses_16 =
        let i = refusal_is b cells buffer L 16 in
        let g = gets_16 b _ (there_is b cells buffer L) cleared in
        ((λ e. g.0 (i.0 e)), (λ h. i.1 (g.1 h)))

-- no leg of a sheet that reads is costed with a load below zero
pub legs_hold : (b : List ℕ) → Reads b → LegsHold (decode b)
legs_hold b R =
    let inside = (plannable b R).ranges in
    record {
      of_solutions = solution_loads (decode b) inside (loads_read b R);
      of_completions = completion_loads (decode b) inside (loads_read b R);
    }

-- nothing is asked that no sheet meets: A, with 12 cells and 36 bytes
pub lent_a : Lent sheet_a (replicate 12 0) (replicate 36 0)
unfolding read_sheet
lent_a =
    let r = accepted_reads sheet_a _ _ reads_a in
    let n : (decode sheet_a).tasks ≡ 2 = ap (λ x. x.tasks) (accepted_value r.1) in
    let p : (decode sheet_a).points ≡ 3 = ap (λ x. x.points) (accepted_value r.1) in
    record {
      bytes = refl;
      passes = (passes_iff sheet_a).0 r.0.passed_tests;
      work_room = rw (n, p) (lit≤ tt);
      plan_room = rw n (lit≤ tt);
    }
