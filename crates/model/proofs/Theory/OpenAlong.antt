-- Along a solution, and along a completion of a list that the pairs allow, the pairs allow every list that is open: essential, with a load that holds, while a door is to
-- come, and then empty. Assumes nothing.
use Rattle.model.proofs.Basics.{◌≡◌, refl, sym, ap, ◌∙◌, true, not, ◌&&◌, List, [], ◌∷◌, map, ℕ, zero, suc, ◌^◌, ◌<◌, arith, eqb}
use Rattle.model.proofs.Basics.{ltb, T, length, drop, pow_pos, ne_eqb, ltb-true, non_neg}
use Rattle.model.specs.{Sheet.Sheet, bit, member, without, full, mask_of, is_admissible, essential, pairs_allow, can_come_first, load}
use Rattle.model.specs.{in_sheet, is_solution, is_completion, InRange, LoadsHold}
use Rattle.model.proofs.Tools.Tests.{and_left, and_right, and_both, all_below_lem, by_test}
use Rattle.model.proofs.TaskLists.Masks.{bit_none, full_bit, full_lt, without_le, with_same}
use Rattle.model.proofs.Theory.{Completions.completes_is, Completions.open_is, FirstTask.allow_without, Existence.admissible_is}
use Rattle.model.proofs.{TaskLists.OpenLists.with_lt, Theory.Solutions.solution}
use mathlib.Core.Bool.{or-true}

module _ (S : Sheet) (R : InRange S) where
  -- K at step i has the tasks of the doors from there on; behind the last door it is empty
  pub open_allowed : (K : ℕ) (ds : List ℕ) → K < 2 ^ S.tasks → pairs_allow S K ≡ true → is_completion S K ds ≡ true
      → (i : ℕ) → pairs_allow S (mask_of (map S.task (drop i ds))) ≡ true
  unfolding pairs_allow
  open_allowed K ds l a e zero = ap (pairs_allow S) (open_is S R ds K l e) ∙ a
  open_allowed K [] l a e (suc i) = refl
  open_allowed K (d ∷ ds) l a e (suc i) =
      let c = completes_is S R (d ∷ ds) K 0 ∙ e in
      let f = and_left (ltb d S.doors && can_come_first S K (S.task d)) _ c in
      let r = and_right (ltb d S.doors && can_come_first S K (S.task d)) _ c in
      open_allowed (without K (S.task d)) ds (omega (arith, without_le K (S.task d))) (allow_without S K (S.task d) a (and_right (ltb d S.doors) _ f))
      (sym (completes_is S R ds (without K (S.task d)) (S.depart d)) ∙ r) i

  -- the full list has every receiver
  pub full_allowed : pairs_allow S (full S.tasks) ≡ true
  unfolding pairs_allow essential
  full_allowed = by_test (eqb (full S.tasks) 0) (λ w. rw w) (λ w. rw w (all_below_lem S.pairs _ (λ i l.
      rw (full_bit S.tasks (S.receiver i) (R.receiver i l)) (or-true (not (member (full S.tasks) (S.sender i)))))))

  -- so along a solution every open list is one that the pairs allow
  pub solution_allowed : (s : ℕ) (ds : List ℕ) → is_solution S s ds ≡ true → (i : ℕ) → pairs_allow S (mask_of (map S.task (drop i ds))) ≡ true
  unfolding is_solution is_completion
  solution_allowed s ds e = open_allowed (full S.tasks) ds (full_lt S.tasks) full_allowed (and_both (solution S s ds e).doors
      (sym (admissible_is S R (map S.task ds)) ∙ and_right (ltb s S.starts && in_sheet S ds) (is_admissible S (map S.task ds)) e))

  -- ---- while a door is to come

  -- the list has that door's task
  open_some : (ds : List ℕ) (i : ℕ) → i < length ds → mask_of (map S.task (drop i ds)) ≡ 0 → ⊥
  open_some [] i l e = absurd (omega arith)
  open_some (d ∷ ds) zero l e =
      absurd (omega (arith, with_same (mask_of (map S.task ds)) (S.task d), ap (λ (K : ℕ). bit K (S.task d)) e, bit_none (S.task d)))
  open_some (d ∷ ds) (suc i) l e = open_some ds i (omega arith) e

  -- so where the pairs allow it, it is essential
  open_essential : (ds : List ℕ) (i : ℕ) → i < length ds → pairs_allow S (mask_of (map S.task (drop i ds))) ≡ true
      → essential S (mask_of (map S.task (drop i ds))) ≡ true
  unfolding pairs_allow
  open_essential ds i l a = rw (ne_eqb (mask_of (map S.task (drop i ds))) 0 (open_some ds i l)) at a

  pub solution_essential : (s : ℕ) (ds : List ℕ) → is_solution S s ds ≡ true → (i : ℕ) → i < length ds → essential S (mask_of (map S.task (drop i ds))) ≡ true
  solution_essential s ds e i l = open_essential ds i l (solution_allowed s ds e i)

  pub completion_essential : (K : ℕ) (ds : List ℕ) → K < 2 ^ S.tasks → pairs_allow S K ≡ true → is_completion S K ds ≡ true
      → (i : ℕ) → i < length ds → essential S (mask_of (map S.task (drop i ds))) ≡ true
  completion_essential K ds k a e i l = open_essential ds i l (open_allowed K ds k a e i)

  -- it is one of the sheet's tasks
  open_listed : (ds : List ℕ) → in_sheet S ds ≡ true → (i : ℕ) → mask_of (map S.task (drop i ds)) < 2 ^ S.tasks
  unfolding in_sheet
  open_listed [] h zero = pow_pos S.tasks
  open_listed [] h (suc i) = pow_pos S.tasks
  open_listed (d ∷ ds) h zero = with_lt S.tasks (mask_of (map S.task ds)) (S.task d)
      (open_listed ds (and_right (ltb d S.doors) (in_sheet S ds) h) zero) (R.task d (ltb-true d S.doors (and_left (ltb d S.doors) (in_sheet S ds) h)))
  open_listed (d ∷ ds) h (suc i) = open_listed ds (and_right (ltb d S.doors) (in_sheet S ds) h) i

  pub solution_below : (s : ℕ) (ds : List ℕ) → is_solution S s ds ≡ true → (i : ℕ) → mask_of (map S.task (drop i ds)) < 2 ^ S.tasks
  solution_below s ds e = open_listed ds (solution S s ds e).doors

  -- and its load is not below zero where no essential list's is
  pub solution_loads : LoadsHold S → (s : ℕ) (ds : List ℕ) → is_solution S s ds ≡ true
      → (i : ℕ) → i < length ds → T (non_neg (load S (mask_of (map S.task (drop i ds)))))
  solution_loads h s ds e i l = h (mask_of (map S.task (drop i ds))) (solution_below s ds e i) (solution_essential s ds e i l)

  pub completion_loads : LoadsHold S → (K : ℕ) (ds : List ℕ) → K < 2 ^ S.tasks → pairs_allow S K ≡ true → is_completion S K ds ≡ true
      → (i : ℕ) → i < length ds → T (non_neg (load S (mask_of (map S.task (drop i ds)))))
  unfolding is_completion
  completion_loads h K ds k a e i l =
      h (mask_of (map S.task (drop i ds))) (open_listed ds (and_left (in_sheet S ds) _ e) i) (completion_essential K ds k a e i l)
