-- Validating is refused with each of its numbers, and accepts, exactly where document 01 says so. What a task done twice and a receiver before
-- its sender mean in places needs what the numbers before have tested: the doors are the sheet's, and then each task is done once. Assumes nothing.
use Rattle.model.proofs.Basics.{◌≡◌, refl, sym, ap, ◌∙◌, ◌≢◌, ◌⊎◌, inl, inr, ⊎_elim, ◌↔◌, Bool, true, false, not, List, [], ◌∷◌, ◌++◌, map, ℕ}
use Rattle.model.proofs.Basics.{◌≤◌, ◌<◌, arith, ltb, leb, length, get_or, length-map, eqb-false, ne_eqb, ltb-true, ltb-false, lt-ltb}
use Rattle.model.proofs.Basics.{leb-true, leb-false, le-leb, not-true, not-false}
use Rattle.model.specs.{Sheet.Sheet, InRange, full, not_in_sheet, done_twice, breaks_pair, wrong_cost, route_tests, plan_tests, validate}
use Rattle.model.specs.{map_below, count_of, index_of, in_sheet, is_order, keeps_pair, keeps_every_pair, is_admissible, no_order, accepted}
use Rattle.model.specs.{Test, plan_start_at, plan_doors_at, plan_cost_at, ill_formed, start_in, door_in, doors_in, cost_in, line_at, entries}
use Rattle.model.specs.{decode_by, layout_of, decode, sheet_tests, unless_fault}
use Rattle.model.specs.Figures.{tasks_stated, doors_stated, LaidOut, start_stated, door_stated, ValidatingApplies, validating_order, Before, AnswersBy}
use Rattle.model.proofs.Tools.Tests.{not_both, and_right, or_right, all_at, all_false, one_fails, none_at, any_true, one_passes}
use Rattle.model.proofs.Tools.Tests.{passes_unless, by_test}
use Rattle.model.proofs.Tools.Positions.{StandsIn, counted_twice, stands_twice, index_stands, index_first, fails_somewhere, image_stands}
use Rattle.model.proofs.Tools.Refusing.{Applies, refuse_append, applies_append, applies_before, pass_none, answers_by}
use Rattle.model.proofs.Calls.{Figures.sheet_applies, PlanFigures.well_formed}
use Rattle.model.proofs.Calls.Reading.{Reads, all_reads, counts_read}
use Rattle.model.proofs.{Tools.Folds.length_map_below, Tools.Folds.map_below_at, Tools.Elements.in_at, TaskLists.Masks.full_bit}
use Rattle.model.proofs.{TaskLists.Counting.order_count, TaskLists.Counting.order_of_all, Theory.Enumerations.has_order}
use Rattle.model.proofs.{Bytes.Ranges.in_range, Calls.Validating.tasks_below}

-- ---- the tasks as driven, by their places

module _ (S : Sheet) (n : ℕ) (door : ℕ → ℕ) where
  -- the doors, and their tasks
  abbrev doors : List ℕ
  doors = map_below n door

  abbrev tasks : List ℕ
  tasks = map S.task doors

  length_tasks : length tasks ≡ n
  length_tasks = length-map doors S.task ∙ length_map_below n door

  -- task i is that of door i
  stands : (i : ℕ) → i < n → StandsIn tasks i (S.task (door i))
  stands = image_stands S.task door n

  -- and what stands at a place is the task of its door
  stands_door : (i t : ℕ) → StandsIn tasks i t → (i < n) × (S.task (door i) ≡ t)
  stands_door i t h = let l : i < n = rw length_tasks at h.0 in (l, sym (stands i l).1 ∙ h.1)

  -- ---- 31

  not_in : (s : ℕ) → (not_in_sheet S s doors ≡ true) ↔ ((S.starts ≤ s) ⊎ ((i : ℕ) × (i < n) × (S.doors ≤ door i)))
  unfolding not_in_sheet in_sheet
  not_in s = (there, back)
    where
      there : not_in_sheet S s doors ≡ true → (S.starts ≤ s) ⊎ ((i : ℕ) × (i < n) × (S.doors ≤ door i))
      there h = by_test (leb S.starts s) (λ w. inl (leb-true _ _ w)) (λ w. inr (
          let r = fails_somewhere (λ d. ltb d S.doors) doors (not-true _ (rw w at h)) in
          let l : r.0 < n = rw length_map_below at r.1 in
          (r.0, l, rw (← map_below_at n door r.0 0 l) (ltb-false _ _ r.2))))

      back : (S.starts ≤ s) ⊎ ((i : ℕ) × (i < n) × (S.doors ≤ door i)) → not_in_sheet S s doors ≡ true
      back (inl h) = rw (le-leb _ _ h)
      back (inr h) = by_test (not_in_sheet S s doors) (λ w. w) (λ w. absurd (
          let l : h.0 < length doors = rw length_map_below h.1 in
          let e : get_or doors h.0 0 ≡ door h.0 = map_below_at n door h.0 0 h.1 in
          let all = not-false _ (or_right (leb S.starts s) _ w) in
          let p : get_or doors h.0 0 < S.doors = ltb-true _ _ (in_at (λ d. ltb d S.doors) doors 0 all h.0 l) in
          omega (arith, h.2)))

  -- ---- 32, where the doors are the sheet's

  module _ (all : n ≡ S.tasks) (R : InRange S) (s : ℕ) (inside : not_in_sheet S s doors ≡ false) where
    door_in_lem : (i : ℕ) → i < n → door i < S.doors
    door_in_lem i l = by_test (leb S.doors (door i))
        (λ w. absurd (not_both ((not_in s).1 (inr (i, l, leb-true _ _ w))) inside))
        (λ w. leb-false _ _ w)

    twice : (done_twice S tasks ≡ true) ↔ ((i j : ℕ) × (i < j) × (j < n) × (S.task (door i) ≡ S.task (door j)))
    unfolding done_twice
    twice = (
      (λ h. let r = one_passes S.tasks (λ t. ltb 1 (count_of t tasks)) h in
          let c = counted_twice r.0 tasks (ltb-true _ _ r.2) in
          let p = stands_door c.0 r.0 c.3 in
          let q = stands_door c.1 r.0 c.4 in
          (c.0, c.1, c.2, q.0, p.1 ∙ sym q.1)),
      (λ h. let i = h.0 in let j = h.1 in
          let t : ℕ = S.task (door j) in
          let l : i < n = omega (arith, h.2, h.3) in
          any_true S.tasks (λ t. ltb 1 (count_of t tasks)) t (R.task (door j) (door_in_lem j h.3))
          (lt-ltb 1 _ (stands_twice t tasks i j h.2 ((stands i l).0, (stands i l).1 ∙ h.4) (stands j h.3)))),
    )

    -- ---- 33, where each task is done once

    module _ (once : done_twice S tasks ≡ false) (ordered : no_order S ≡ false) where
      -- every task of the sheet is there
      there_once : (t : ℕ) → t < S.tasks → 1 ≤ count_of t tasks
      unfolding not_in_sheet done_twice
      there_once t l =
          let o = order_of_all S.tasks tasks (tasks_below S R doors (not-false _ (or_right (leb S.starts s) _ inside))) (length_tasks ∙ all)
          (λ t l. ltb-false 1 _ (none_at S.tasks (λ t. ltb 1 (count_of t tasks)) once t l)) in
          omega (arith, order_count S.tasks (full S.tasks) tasks o t l, full_bit S.tasks t l)

      -- no pair is of a task with itself
      not_itself : (p : ℕ) → p < S.pairs → S.sender p ≡ S.receiver p → ⊥
      unfolding is_admissible keeps_every_pair keeps_pair
      not_itself p l e =
          let o = has_order S ordered in
          let k : index_of (S.sender p) o.0 < index_of (S.receiver p) o.0 = ltb-true _ _
          (all_at S.pairs (keeps_pair S o.0) (and_right (is_order S.tasks (full S.tasks) o.0) _ o.1) p l) in
          omega (arith, ap (λ (t : ℕ). index_of t o.0) e)

      -- where the sender and the receiver of a pair first stand
      abbrev sent : ℕ → ℕ
      sent p = index_of (S.sender p) tasks

      abbrev received : ℕ → ℕ
      received p = index_of (S.receiver p) tasks

      breaks : (breaks_pair S tasks ≡ true)
          ↔ ((p i j : ℕ) × (p < S.pairs) × (i < j) × (j < n) × (S.task (door i) ≡ S.receiver p) × (S.task (door j) ≡ S.sender p))
      unfolding breaks_pair keeps_every_pair keeps_pair
      breaks = (
        (λ h. let r = one_fails S.pairs (keeps_pair S tasks) (not-true _ h) in
            let p = r.0 in
            let a = index_stands (S.receiver p) tasks (there_once (S.receiver p) (R.receiver p r.1)) in
            let c = index_stands (S.sender p) tasks (there_once (S.sender p) (R.sender p r.1)) in
            let i = stands_door _ _ a in
            let j = stands_door _ _ c in
            let le : received p ≤ sent p = ltb-false _ _ r.2 in
            let ne : received p ≢ sent p = λ e. not_itself p r.1 (sym c.1 ∙ ap (λ (k : ℕ). get_or tasks k 0) (sym e) ∙ a.1) in
            (p, received p, sent p, r.1, omega (arith, le, ne), j.0, i.1, j.1)),
        (λ h. let p = h.0 in let i = h.1 in let j = h.2 in
            let l : i < n = omega (arith, h.4, h.5) in
            let first : received p ≤ i = index_first (S.receiver p) tasks i ((stands i l).0, (stands i l).1 ∙ h.6) in
            let k = stands_door _ _ (index_stands (S.sender p) tasks (there_once (S.sender p) (R.sender p h.3))) in
            ap not (all_false S.pairs (keeps_pair S tasks) p h.3 (by_test (ltb (sent p) (received p))
            (λ w. let m : sent p < received p = ltb-true _ _ w in
            absurd (not_both (twice.1 (sent p, j, omega (arith, first, h.4), h.5, k.1 ∙ sym h.7)) once))
            (λ w. w)))),
      )

-- ---- the numbers of validating

module _ (b q : List ℕ) where
  abbrev S : Sheet
  S = decode b

  -- the number of doors that are read, their numbers, and the start's
  abbrev N : ℕ
  N = tasks_stated b

  abbrev door_at : ℕ → ℕ
  door_at = door_stated q

  abbrev start : ℕ
  start = start_stated q

  abbrev own : List Test
  own = plan_tests S q

  abbrev both : List Test
  both = sheet_tests b ++ own

  -- what the numbers before r have tested
  module _ (r : ℕ) (lower : (n : ℕ) → Before validating_order n r → Applies both n → ⊥) where
    earlier : (n : ℕ) (t : Bool) → Before validating_order n r → (t ≡ true → Applies own n) → t ≡ false
    earlier n t l k = by_test t
        (λ w. absurd (lower n l ((applies_append (sheet_tests b) own n).1 (inr (k w)))))
        (λ w. w)

    -- the sheet's own numbers stand in front
    reads : Before validating_order 16 r → Reads b
    unfolding sheet_tests
    reads l = all_reads b (pass_none (sheet_tests b) (λ n h.
        lower n (omega (arith, applies_before (sheet_tests b) (30 ∷ 31 ∷ 32 ∷ 33 ∷ 34 ∷ []) n h)) ((applies_append (sheet_tests b) own n).1 (inl h))))

    formed : Before validating_order 16 r → (ill_formed S.tasks q ≡ true) ↔ (LaidOut N q → ⊥)
    unfolding decode decode_by entries line_at
    formed l = passes_unless _ (well_formed N q (counts_read b (reads l)).tasks)

    inside : Before validating_order 31 r → not_in_sheet S (start_in q) (doors_in S.tasks q) ≡ false
    unfolding plan_tests route_tests
    inside l = earlier 31 _ l (λ w. inr (inl (refl, w)))

    once : Before validating_order 32 r → done_twice S (map S.task (doors_in S.tasks q)) ≡ false
    unfolding plan_tests route_tests
    once l = earlier 32 _ l (λ w. inr (inr (inl (refl, w))))

    ranges : Before validating_order 16 r → InRange S
    ranges l = in_range (layout_of b) S (reads l).passed_tests.ranges

    -- r is m, before which n is tested
    after : (n : ℕ) {m : ℕ} → r ≡ m → ltb (index_of n validating_order) (index_of m validating_order) ≡ true → Before validating_order n r
    after n e l = rw e (ltb-true _ _ l)

    plan_applies : Applies own r → ValidatingApplies b q r
    unfolding plan_tests route_tests doors_in wrong_cost decode decode_by entries line_at start_in door_in cost_in plan_start_at plan_doors_at plan_cost_at
    plan_applies (inl h) = ValidatingApplies.is30 h.0 ((formed (after 16 h.0 refl)).0 h.1)
    plan_applies (inr (inl h)) = ⊎_elim
        (ValidatingApplies.start31 h.0)
        (λ (w : (i : ℕ) × (i < N) × (doors_stated b ≤ door_at i)). ValidatingApplies.door31 h.0 w.0 w.1 w.2)
        ((not_in S N door_at start).0 h.1)
    plan_applies (inr (inr (inl h))) =
        let w = (twice S N door_at refl (ranges (after 16 h.0 refl)) start (inside (after 31 h.0 refl))).0 h.1 in
        ValidatingApplies.is32 h.0 w.0 w.1 w.2 w.3 w.4
    plan_applies (inr (inr (inr (inl h)))) =
        let e : r ≡ 33 = h.0 in
        let w = (breaks S N door_at refl (ranges (after 16 e refl)) start (inside (after 31 e refl)) (once (after 32 e refl))
        (reads (after 16 e refl)).ordered).0 h.1 in
        ValidatingApplies.is33 h.0 w.0 w.1 w.2 w.3 w.4 w.5 w.6 w.7
    plan_applies (inr (inr (inr (inr (inl h))))) = ValidatingApplies.is34 h.0 (eqb-false _ _ (not-true _ h.1))
    plan_applies (inr (inr (inr (inr (inr h))))) = absurd h

    applies_plan : ValidatingApplies b q r → Applies (sheet_tests b) r ⊎ Applies own r
    unfolding plan_tests route_tests doors_in wrong_cost decode decode_by entries line_at start_in door_in cost_in plan_start_at plan_doors_at plan_cost_at
    applies_plan (ValidatingApplies.sheet h) = inl ((sheet_applies b r).1 h)
    applies_plan (ValidatingApplies.is30 e h) = inr (inl (e, (formed (after 16 e refl)).1 h))
    applies_plan (ValidatingApplies.start31 e h) = inr (inr (inl (e, (not_in S N door_at start).1 (inl h))))
    applies_plan (ValidatingApplies.door31 e i l h) = inr (inr (inl (e, (not_in S N door_at start).1 (inr (i, l, h)))))
    applies_plan (ValidatingApplies.is32 e i j l m h) =
        inr (inr (inr (inl (e, (twice S N door_at refl (ranges (after 16 e refl)) start (inside (after 31 e refl))).1 (i, j, l, m, h)))))
    applies_plan (ValidatingApplies.is33 e p i j k l m h g) =
        inr (inr (inr (inr (inl (
          e,
          (breaks S N door_at refl (ranges (after 16 e refl)) start (inside (after 31 e refl)) (once (after 32 e refl)) (reads (after 16 e refl)).ordered
              ).1 (p, i, j, k, l, m, h, g),
        )))))
    applies_plan (ValidatingApplies.is34 e h) = inr (inr (inr (inr (inr (inl (e, ap not (ne_eqb _ _ h)))))))

    validating_applies : Applies both r ↔ ValidatingApplies b q r
    validating_applies = (
      (λ h. ⊎_elim (λ k. ValidatingApplies.sheet ((sheet_applies b r).0 k)) plan_applies ((applies_append (sheet_tests b) own r).0 h)),
      (λ h. (applies_append (sheet_tests b) own r).1 (applies_plan h)),
    )

  pub validating_answers : AnswersBy validating_order (ValidatingApplies b q) (validate b q)
  unfolding validate unless_fault sheet_tests plan_tests route_tests
  validating_answers = rw (refuse_append (sheet_tests b) own (accepted (cost_in S.tasks q)))
      (answers_by validating_order both _ (ValidatingApplies b q) refl (λ p. (_, refl)) validating_applies)
