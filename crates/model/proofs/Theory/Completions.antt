-- Driving as a process, from every point with every list open: its completions are the sheet's, at the same cost, so what holds of a process holds of a
-- sheet. Assumes nothing.
use Rattle.model.proofs.Basics.{◌≡◌, refl, sym, ap, ap₂, ◌∙◌, true, cond, ◌&&◌, List, [], ◌∷◌, map, ℕ, suc, ◌+◌, ◌^◌, ◌<◌, arith}
use Rattle.model.proofs.Basics.{ltb, eqb-true, eq-eqb, ltb-true}
use Rattle.model.specs.{Sheet.Sheet, flat_map_below, lists_below, all_in, first_least, least, without, size, mask_of, is_order_within}
use Rattle.model.specs.{can_come_first, step_cost, cost, in_sheet, is_completion, completions, cost_to_go, cheapest_completion, InRange}
use Rattle.model.proofs.Tools.{Tests.same_test, Tests.and_right, Tests.and_left_comm, Tests.by_test, Folds.flat_cong}
use Rattle.model.proofs.Tools.{Folds.keep_cong, Lists.All, Lists.all_kept, Lists.map_cong, Choices.first_cong}
use Rattle.model.proofs.TaskLists.Masks.{without_le, size_none, size_without}
use Rattle.model.proofs.Theory.Process.{Process, completes, runs, run_cost, to_go, best_run, runs_end, runs_by_first}
use Rattle.model.proofs.Theory.FirstTask.{within_cons, first_bit, nil_size, size_nil, mask_is}

-- where the van stands, and what is open
pub record Position : Type 0 where
  pub list : ℕ
  pub point : ℕ

abbrev pub standing : ℕ → ℕ → Position
standing K p = record { list = K; point = p }

module _ (S : Sheet) (R : InRange S) where
  abbrev pub driving : Process
  driving = record {
    State = Position;
    choices = S.doors;
    left = λ x. size S.tasks x.list;
    able = λ x d. can_come_first S x.list (S.task d);
    step_cost = λ x d. step_cost S x.list x.point d;
    next = λ x d. record { list = without x.list (S.task d); point = S.depart d };
    end_cost = λ x. S.end_cost x.point;
    fewer = λ x d l a. size_without S.tasks x.list (S.task d) (R.task d l) (first_bit S x.list (S.task d) a);
  }

  -- a completion of the list is a completion of the process
  pub completes_is : (ds : List ℕ) (K p : ℕ) → completes driving (standing K p) ds ≡ is_completion S K ds
  unfolding is_completion in_sheet
  completes_is [] K p = same_test _ _ (λ e. size_nil S R K (eqb-true (size S.tasks K) 0 e)) (λ e. eq-eqb (size S.tasks K) 0 (nil_size S K e))
  completes_is (d ∷ ds) K p = by_test (ltb d S.doors)
      (λ w. rw w
      (ap (λ b. can_come_first S K (S.task d) && b) (completes_is ds (without K (S.task d)) (S.depart d))
      ∙ and_left_comm (can_come_first S K (S.task d)) (all_in (λ d. ltb d S.doors) ds) (is_order_within S (without K (S.task d)) (map S.task ds))
      ∙ ap (λ b. all_in (λ d. ltb d S.doors) ds && b) (sym (within_cons S K (S.task d) (map S.task ds) (R.task d (ltb-true d S.doors w))))))
      (λ w. rw w)

  pub completions_are : (K p : ℕ) → completions S K ≡ runs driving (standing K p)
  unfolding completions
  completions_are K p = sym (keep_cong _ _ (λ ds. completes_is ds K p) (lists_below S.doors (size S.tasks K)))

  -- the completions of a list by their first door, as one equation of lists
  pub completions_by_first : (K k : ℕ) → size S.tasks K ≡ suc k → completions S K ≡ flat_map_below S.doors
      (λ d. cond (can_come_first S K (S.task d)) (map (λ (ds : List ℕ). d ∷ ds) (completions S (without K (S.task d)))) [])
  completions_by_first K k e = completions_are K 0 ∙ runs_by_first driving (standing K 0) k e
      ∙ flat_cong S.doors _ _ (λ d l. rw (← completions_are (without K (S.task d)) (S.depart d)))

  -- with nothing open there is the empty completion
  pub completions_none : completions S 0 ≡ [] ∷ []
  completions_none = completions_are 0 0 ∙ runs_end driving (standing 0 0) (size_none S.tasks)

  -- ---- costs

  -- the tasks of the doors to come are the open list
  pub open_is : (ds : List ℕ) (K : ℕ) → K < 2 ^ S.tasks → is_completion S K ds ≡ true → mask_of (map S.task ds) ≡ K
  unfolding is_completion
  open_is ds K l e = mask_is S (map S.task ds) K l (and_right (in_sheet S ds) (is_order_within S K (map S.task ds)) e)

  pub cost_is : (ds : List ℕ) (K p : ℕ) → K < 2 ^ S.tasks → is_completion S K ds ≡ true → cost S p ds ≡ run_cost driving (standing K p) ds
  cost_is [] K p l e = refl
  cost_is (d ∷ ds) K p l e =
      let c = completes_is (d ∷ ds) K p ∙ e in
      let r = and_right (ltb d S.doors && can_come_first S K (S.task d)) (completes driving (standing (without K (S.task d)) (S.depart d)) ds) c in
      ap₂ (λ (m v : ℕ). step_cost S m p d + v) (open_is (d ∷ ds) K l e)
      (cost_is ds (without K (S.task d)) (S.depart d) (omega (arith, without_le K (S.task d)))
      (sym (completes_is ds (without K (S.task d)) (S.depart d)) ∙ r))

  -- the costs of the completions, one by one
  costs_are : (K p : ℕ) → K < 2 ^ S.tasks → All (λ ds. cost S p ds ≡ run_cost driving (standing K p) ds) (completions S K)
  unfolding completions
  costs_are K p l = all_kept _ (is_completion S K) (λ ds e. cost_is ds K p l e) (lists_below S.doors (size S.tasks K))

  pub to_go_is : (K p : ℕ) → K < 2 ^ S.tasks → cost_to_go S K p ≡ to_go driving (standing K p)
  unfolding cost_to_go to_go
  to_go_is K p l = ap least (map_cong (cost S p) (run_cost driving (standing K p)) (completions S K) (costs_are K p l))
      ∙ ap (λ xs. least (map (run_cost driving (standing K p)) xs)) (completions_are K p)

  pub cheapest_is : (K p : ℕ) → K < 2 ^ S.tasks → cheapest_completion S K p ≡ best_run driving (standing K p)
  unfolding cheapest_completion best_run
  cheapest_is K p l = first_cong (cost S p) (run_cost driving (standing K p)) (completions S K) (costs_are K p l)
      ∙ ap (first_least (run_cost driving (standing K p))) (completions_are K p)

  -- with nothing open the end cost is left
  pub to_go_none : (p : ℕ) → cost_to_go S 0 p ≡ S.end_cost p
  unfolding cost_to_go
  to_go_none p = ap (λ xs. least (map (cost S p) xs)) completions_none
