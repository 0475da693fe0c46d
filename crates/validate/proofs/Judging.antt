-- The judge on a sheet that reads. Its tests are those of the definition's list, in its order: what it answers at the first that applies
-- is the definition's answer with the tests before it put to false. Past 31 to 33 the route is a solution, which can be costed because
-- no essential list has a load below zero. Assumes nothing.
use Rattle.model.proofs.Basics.{◌≡◌, refl, sym, ◌∙◌, true, false, not, List, map, ℕ, ◌≤◌, ◌<◌, arith, ltb, leb, length, take}
use Rattle.model.proofs.Basics.{are_bytes, length-take-le, get_or-take, ext_get_or, eq-eqb, ne_eqb, ltb-true, lt-ltb, leb-false, not-false}
use Rattle.model.specs.{all_in, cost, in_sheet, round_cost, refused, accepted, refuse_if, refuse_first, max_tasks}
use Rattle.model.specs.Answer.{Answer}
use Rattle.model.specs.{layout_of, decode, read_sheet, InRange, max_plan_doors, ill_formed, start_in, door_in, doors_in, cost_in, door_array}
use Rattle.model.specs.{not_in_sheet, done_twice, breaks_pair, wrong_cost, route_tests, plan_tests, validate}
use Rattle.model.proofs.Tools.Tests.{or_left, or_right}
use Rattle.model.proofs.Tools.Folds.{map_below_at}
use Rattle.model.proofs.Tools.Lists.{all_imply, all_in_lem, in_all}
use Rattle.model.proofs.Bytes.Ranges.{in_range, least_counts_lem}
use Rattle.model.proofs.Bytes.PlanBytes.{length_array, array_at, length_doors}
use Rattle.model.proofs.Calls.Reading.{Reads, reads_then, counts_read, loads_read, refused_alike}
use Rattle.model.proofs.Calls.Validating.{tasks_below, judged_solution}
use Rattle.route.specs.Routes.{Costable}
use Rattle.route.proofs.Routes.{costable}

-- what the reader refuses the judge refuses
pub sheet_refused : (b q : List ℕ) {r : ℕ} → refused r ≡ read_sheet b → refused r ≡ validate b q
unfolding read_sheet validate plan_tests
sheet_refused b q {r} e = sym (refused_alike b _ _ _ r refl (sym e))

-- ---- the plan's bytes

module _ {b : List ℕ} (h : Reads b) (q : List ℕ) {n : ℕ} (e : n ≡ (decode b).tasks) where
  few : n ≤ max_plan_doors
  few = rw e (counts_read b h).tasks

  judged : validate b q
      ≡ refuse_if (ill_formed n q) 30 (refuse_first (route_tests (decode b) (start_in q) (doors_in n q) (cost_in n q)) (accepted (cost_in n q)))
  unfolding validate plan_tests
  judged = reads_then b _ h ∙ rw (← e)

  pub ill_formed_lem : ill_formed n q ≡ true → refused 30 ≡ validate b q
  ill_formed_lem w = sym (rw w at judged)

  -- ds is the array that the doors were read to
  module _ {ds : List ℕ} (hd : ds ≡ door_array max_plan_doors n (door_in q)) where
    pub in_array : n ≤ length ds
    in_array = rw (hd, length_array) few

    doors_are : take n ds ≡ doors_in n q
    unfolding doors_in
    doors_are =
        let l : length (take n ds) ≡ n = length-take-le n ds in_array in
        ext_get_or 0 _ _ (l ∙ sym (length_doors n q)) (λ i m. let k : i < n = rw l at m in
        get_or-take n ds i 0 k ∙ rw hd (array_at max_plan_doors n (door_in q) i few k) ∙ sym (map_below_at n (door_in q) i 0 k))

    pub as_many_doors : length (take n ds) ≡ (decode b).tasks
    as_many_doors = length-take-le n ds in_array ∙ e

    -- where the bytes are well formed, the judge goes by the start, the doors and the cost that they hold
    pub route_judged : ill_formed n q ≡ false → {start c : ℕ} {a : Answer ℕ} → start ≡ start_in q → c ≡ cost_in n q
        → a ≡ refuse_first (route_tests (decode b) start (take n ds) c) (accepted c) → a ≡ validate b q
    route_judged formed hs hc ha = ha ∙ rw (hs, hc, doors_are) (sym (rw formed at judged))

-- ---- start, doors and cost

-- for a sheet that reads, as many doors as it has tasks
pub record Routed (b : List ℕ) (start : ℕ) (ds : List ℕ) (c : ℕ) : Type 0 where
  pub reads : Reads b
  pub size : length ds ≡ (decode b).tasks

module _ {b : List ℕ} {start : ℕ} {ds : List ℕ} {c : ℕ} (R : Routed b start ds c) where
  abbrev answered : Answer ℕ
  answered = refuse_first (route_tests (decode b) start ds c) (accepted c)

  pub ranges : InRange (decode b)
  ranges = in_range (layout_of b) (decode b) R.reads.passed_tests.ranges

  pub few_tasks : (decode b).tasks ≤ max_tasks
  few_tasks = (counts_read b R.reads).tasks

  pub few_doors : length ds ≤ max_plan_doors
  few_doors = rw R.size few_tasks

  pub not_in_sheet_lem : not_in_sheet (decode b) start ds ≡ true → refused 31 ≡ answered
  unfolding route_tests
  not_in_sheet_lem e = sym (rw e)

  module _ (p₁ : not_in_sheet (decode b) start ds ≡ false) where
    pub doors_in_lem : in_sheet (decode b) ds ≡ true
    unfolding not_in_sheet
    doors_in_lem = not-false _ (or_right (leb (decode b).starts start) _ p₁)

    pub start_in_lem : start < (decode b).starts
    unfolding not_in_sheet
    start_in_lem = leb-false (decode b).starts start (or_left _ (not (in_sheet (decode b) ds)) p₁)

    -- ts is what the code has for the tasks of the doors
    module _ {ts : List ℕ} (t : ts ≡ map (decode b).task ds) where
      pub tasks_in : all_in (λ t. ltb t (decode b).tasks) ts ≡ true
      tasks_in = rw t (tasks_below (decode b) ranges ds doors_in_lem)

      pub tasks_small : all_in (λ t. ltb t max_tasks) ts ≡ true
      tasks_small = in_all (λ (t : ℕ). ltb t max_tasks) ts (all_imply
          (λ (t : ℕ). ltb t (decode b).tasks ≡ true) (λ (t : ℕ). ltb t max_tasks ≡ true)
          (λ t (w : ltb t (decode b).tasks ≡ true). lt-ltb t max_tasks (omega (arith, ltb-true t (decode b).tasks w, few_tasks)))
          ts (all_in_lem (λ (t : ℕ). ltb t (decode b).tasks) ts tasks_in))

      pub done_twice_lem : done_twice (decode b) ts ≡ true → refused 32 ≡ answered
      unfolding route_tests
      done_twice_lem e = sym (rw (p₁, ← t, e))

      module _ (p₂ : done_twice (decode b) ts ≡ false) where
        pub wrong_order : breaks_pair (decode b) ts ≡ true → refused 33 ≡ answered
        unfolding route_tests
        wrong_order e = sym (rw (p₁, ← t, p₂, e))

        -- p is where the code starts
        module _ (p₃ : breaks_pair (decode b) ts ≡ false) {p : ℕ} (e : p ≡ (decode b).start_point start) where
          pub solves : are_bytes b ≡ true → Costable (decode b) p ds ts
          solves bytes =
              let x = R.reads.passed_tests.ranges in
              costable b bytes (counts_read b R.reads) ranges (least_counts_lem (layout_of b) (decode b) x) (loads_read b R.reads) start
              (judged_solution (decode b) ranges start ds R.size p₁ (rw t at p₂) (rw t at p₃)) e t

          -- r is the cost that it finds
          module _ {r : ℕ} (k : r ≡ cost (decode b) p ds) where
            found : r ≡ round_cost (decode b) start ds
            unfolding round_cost
            found = rw e at k

            pub wrong_cost_lem : (c ≡ r → ⊥) → refused 34 ≡ answered
            unfolding route_tests wrong_cost
            wrong_cost_lem n = sym (rw (p₁, ← t, p₂, p₃, ← found, ne_eqb c r n))

            pub right_cost : c ≡ r → accepted r ≡ answered
            unfolding route_tests wrong_cost
            right_cost s = sym (rw (p₁, ← t, p₂, p₃, ← found, eq-eqb c r s, s))
