-- Validating accepts exactly the well-formed bytes of a solution with its cost: a solution is what passes 31 to 33. Assumes nothing.
use Rattle.model.proofs.Basics.{◌≡◌, refl, sym, ap, ◌∙◌, ⊎_elim, ◌↔◌, true, false, not, List, [], ◌∷◌, map, ℕ, ◌^◌, ◌≤◌, ◌<◌, ltb}
use Rattle.model.proofs.Basics.{leb, length, length-map, are_bytes, eqb-true, eq-eqb, ltb-true, ltb-false, lt-ltb, le-ltb, leb-false}
use Rattle.model.proofs.Basics.{lt-leb, not-false}
use Rattle.model.specs.{Sheet.Sheet, Answer.Answer, is_between, all_in, count_of, full, in_sheet, is_solution, round_cost, refused}
use Rattle.model.specs.{accepted, refuse_first, layout_of, decode, plan_bytes, start_in, doors_in, cost_in, not_in_sheet, done_twice}
use Rattle.model.specs.{breaks_pair, wrong_cost, route_tests, plan_tests, validate, CountsWithin, InRange}
use Rattle.model.proofs.Tools.Tests.{and_left, and_right, and_both, or_left, or_right, or_neither, none_at, none_below}
use Rattle.model.proofs.Tools.Refusing.{refused≢accepted, accepted_value, accepted_pass, refused_applies, applies_within}
use Rattle.model.proofs.Theory.Solutions.{SolutionTests, solution, is_solution_lem, solution_length, solution_fits}
use Rattle.model.proofs.Bytes.PlanBytes.{length_doors, plan_well_formed, start_again, doors_again, cost_again, well_formed_is}
use Rattle.model.proofs.Calls.Reading.{Reads, reads_then, counts_read}
use Rattle.model.proofs.{TaskLists.Counting.order_once, TaskLists.Counting.order_of_all, Bytes.Ranges.in_range}

-- ---- start, doors and cost

-- the tasks of the sheet's doors are the sheet's
pub tasks_below : (S : Sheet) → InRange S → (ds : List ℕ) → in_sheet S ds ≡ true → all_in (λ t. ltb t S.tasks) (map S.task ds) ≡ true
unfolding in_sheet
tasks_below S R [] h = refl
tasks_below S R (d ∷ ds) h = and_both
    (lt-ltb (S.task d) S.tasks (R.task d (ltb-true d S.doors (and_left (ltb d S.doors) (in_sheet S ds) h))))
    (tasks_below S R ds (and_right (ltb d S.doors) (in_sheet S ds) h))

-- what passes 31 to 33 is a solution
pub judged_solution : (S : Sheet) → InRange S → (s : ℕ) (ds : List ℕ) → length ds ≡ S.tasks
    → not_in_sheet S s ds ≡ false → done_twice S (map S.task ds) ≡ false → breaks_pair S (map S.task ds) ≡ false → is_solution S s ds ≡ true
unfolding not_in_sheet done_twice breaks_pair
judged_solution S R s ds e p₁ p₂ p₃ =
    let i : in_sheet S ds ≡ true = not-false _ (or_right (leb S.starts s) _ p₁) in
    is_solution_lem S s ds (record {
      start = leb-false S.starts s (or_left _ (not (in_sheet S ds)) p₁);
      doors = i;
      order = order_of_all S.tasks (map S.task ds) (tasks_below S R ds i) (length-map ds S.task ∙ e)
          (λ t l. ltb-false 1 _ (none_at S.tasks (λ t. ltb 1 (count_of t (map S.task ds))) p₂ t l));
      pairs = not-false _ p₃;
    })

-- and a solution passes them
stands_in_sheet : (S : Sheet) (s : ℕ) (ds : List ℕ) → SolutionTests S s ds → not_in_sheet S s ds ≡ false
unfolding not_in_sheet
stands_in_sheet S s ds h = or_neither (lt-leb S.starts s h.start) (ap not h.doors)

done_once : (S : Sheet) (s : ℕ) (ds : List ℕ) → SolutionTests S s ds → done_twice S (map S.task ds) ≡ false
unfolding done_twice
done_once S s ds h = none_below S.tasks _ (λ t l. le-ltb 1 _ (order_once S.tasks (full S.tasks) (map S.task ds) h.order t))

-- what start, doors and cost are answered with
abbrev pub validate_for : Sheet → ℕ → List ℕ → ℕ → Answer ℕ
validate_for S s ds c = refuse_first (route_tests S s ds c) (accepted c)

-- what is accepted is a solution with its cost, and such a one is accepted
pub validate_for_iff : (S : Sheet) → InRange S → (s : ℕ) (ds : List ℕ) (c c' : ℕ) → length ds ≡ S.tasks
    → (validate_for S s ds c ≡ accepted c') ↔ ((is_solution S s ds ≡ true) × (c ≡ round_cost S s ds) × (c' ≡ c))
unfolding route_tests breaks_pair wrong_cost
validate_for_iff S R s ds c c' e = (
  (λ a. let p = accepted_pass (route_tests S s ds c) (accepted c) c' a in
      let t = p.0 in
      (judged_solution S R s ds e t.0 t.1.0 t.1.1.0, eqb-true _ _ (not-false _ t.1.1.1.0), sym (accepted_value p.1))),
  (λ h. let x : SolutionTests S s ds = solution S s ds h.0 in
      rw (stands_in_sheet S s ds x, done_once S s ds x, x.pairs, eq-eqb _ _ h.1, h.2)),
)

-- ---- the plan's bytes

-- the bytes are judged by the start, doors and cost that they were written for
plan_validated : (S : Sheet) → CountsWithin S → (s : ℕ) (ds : List ℕ) (c : ℕ) → SolutionTests S s ds → c < 2 ^ 64
    → refuse_first (plan_tests S (plan_bytes S.tasks s ds c)) (accepted (cost_in S.tasks (plan_bytes S.tasks s ds c))) ≡ validate_for S s ds c
unfolding plan_tests
plan_validated S W s ds c x l =
    let n : ℕ = S.tasks in
    let small = solution_fits S W s ds x in
    rw (plan_well_formed n s ds c, start_again n s ds c small.0, doors_again n s ds c (solution_length S s ds x) small.1, cost_again n s ds c l)

-- validating accepts exactly the well-formed bytes of a solution with its cost
pub validate_iff : (b q : List ℕ) (c : ℕ) → are_bytes q ≡ true → Reads b
    → ((s : ℕ) (ds : List ℕ) → is_solution (decode b) s ds ≡ true → round_cost (decode b) s ds < 2 ^ 64)
    → (validate b q ≡ accepted c)
    ↔ ((s : ℕ) × (ds : List ℕ) × (is_solution (decode b) s ds ≡ true) × (c ≡ round_cost (decode b) s ds) × (q ≡ plan_bytes (decode b).tasks s ds c))
unfolding validate plan_tests
validate_iff b q c bytes reads small = (
  (λ e. let a = sym (reads_then b _ reads) ∙ e in
      let p = accepted_pass (plan_tests S q) _ c a in
      let j = (validate_for_iff S R (start_in q) (doors_in S.tasks q) (cost_in S.tasks q) c (length_doors S.tasks q)).0 (rw p.0.0 at a) in
      (start_in q, doors_in S.tasks q, j.0, j.2 ∙ j.1, rw j.2 (sym (well_formed_is S.tasks q bytes p.0.0)))),
  (λ h. let s = h.0 in let ds = h.1 in let solves = h.2 in
      let x : SolutionTests S s ds = solution S s ds solves in
      reads_then b _ reads
      ∙ rw h.4 (plan_validated S (counts_read b reads) s ds c x (rw h.3 (small s ds solves)))
      ∙ (validate_for_iff S R s ds c c (solution_length S s ds x)).1 (solves, h.3, refl)),
)
  where
    S : Sheet
    S = decode b

    R : InRange S
    R = in_range (layout_of b) S reads.passed_tests.ranges

-- ---- what it refuses

-- what is refused on a sheet that reads is refused with one of 30 to 34
pub judge_refusals : (b q : List ℕ) (r : ℕ) → Reads b → validate b q ≡ refused r → (30 ≤ r) × (r ≤ 34)
unfolding validate plan_tests route_tests is_between
judge_refusals b q r h e = ⊎_elim (applies_within 30 34 (plan_tests (decode b) q) r refl) (λ p. absurd (refused≢accepted (sym p.1)))
    (refused_applies (plan_tests (decode b) q) _ r (sym (reads_then b _ h) ∙ e))
