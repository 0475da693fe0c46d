-- The parts of a solution, as many doors as there are tasks, and that its numbers fit their places in a plan. Assumes nothing.
use Rattle.model.proofs.Basics.{◌≡◌, sym, ◌∙◌, true, ◌&&◌, List, map, ℕ, ◌^◌, ◌<◌, arith, ltb, length, get_or, length-map, ltb-true}
use Rattle.model.proofs.Basics.{lt-ltb}
use Rattle.model.specs.{Sheet.Sheet, full, is_order, keeps_every_pair, is_admissible, in_sheet, is_solution, CountsWithin}
use Rattle.model.proofs.Tools.{Tests.and_left, Tests.and_right, Tests.and_both, Elements.in_at}
use Rattle.model.proofs.TaskLists.{Masks.size_full, Counting.order_length}

-- each door of a route whose doors are in the sheet
pub door_in_lem : (S : Sheet) (ds : List ℕ) → in_sheet S ds ≡ true → (i : ℕ) → i < length ds → get_or ds i 0 < S.doors
unfolding in_sheet
door_in_lem S ds h i l = ltb-true (get_or ds i 0) S.doors (in_at (λ d. ltb d S.doors) ds 0 h i l)

pub record SolutionTests (S : Sheet) (s : ℕ) (ds : List ℕ) : Type 0 where
  pub start : s < S.starts
  pub doors : in_sheet S ds ≡ true
  pub order : is_order S.tasks (full S.tasks) (map S.task ds) ≡ true
  pub pairs : keeps_every_pair S (map S.task ds) ≡ true

pub solution : (S : Sheet) (s : ℕ) (ds : List ℕ) → is_solution S s ds ≡ true → SolutionTests S s ds
unfolding is_solution is_admissible
solution S s ds h =
    let f : (ltb s S.starts && in_sheet S ds) ≡ true = and_left _ (is_admissible S (map S.task ds)) h in
    let a : is_admissible S (map S.task ds) ≡ true = and_right (ltb s S.starts && in_sheet S ds) _ h in
    record {
      start = ltb-true s S.starts (and_left _ (in_sheet S ds) f);
      doors = and_right (ltb s S.starts) _ f;
      order = and_left _ (keeps_every_pair S (map S.task ds)) a;
      pairs = and_right (is_order S.tasks (full S.tasks) (map S.task ds)) _ a;
    }

pub is_solution_lem : (S : Sheet) (s : ℕ) (ds : List ℕ) → SolutionTests S s ds → is_solution S s ds ≡ true
unfolding is_solution is_admissible
is_solution_lem S s ds h = and_both (and_both (lt-ltb s S.starts h.start) h.doors) (and_both h.order h.pairs)

-- a solution has a door for each task
pub solution_length : (S : Sheet) (s : ℕ) (ds : List ℕ) → SolutionTests S s ds → length ds ≡ S.tasks
solution_length S s ds h = sym (length-map ds S.task) ∙ order_length S.tasks (full S.tasks) (map S.task ds) h.order ∙ size_full S.tasks

-- the start and the doors of a solution fit 16 bits
pub solution_fits : (S : Sheet) → CountsWithin S → (s : ℕ) (ds : List ℕ) → SolutionTests S s ds → (s < 2 ^ 16) × ((i : ℕ) → i < S.tasks → get_or ds i 0 < 2 ^ 16)
solution_fits S W s ds x =
    let e : length ds ≡ S.tasks = solution_length S s ds x in
    (omega (arith, x.start, W.starts), λ i m. omega (arith, door_in_lem S ds x.doors i (omega arith), W.doors))
