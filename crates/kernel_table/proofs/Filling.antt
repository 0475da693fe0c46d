-- The cells while the table is filled: none done, a row more, and all done; and what is shown by then. Assumes nothing.
use Rattle.model.proofs.Basics.{◌≡◌, refl, sym, ap, ap₂, ◌∙◌, ◌≢◌, ⊎_elim, Bool, true, false, cond, ◌&&◌, List, ◌++◌, ℕ, ◌+◌, ◌-◌, ◌*◌, ◌/◌}
use Rattle.model.proofs.Basics.{◌%◌, ◌^◌, ◌≤◌, ◌<◌, arith, eqb, ltb, length, get_or, drop}
use Rattle.model.proofs.Basics.{ext_get_or, eqb-true, eqb-false, ne_eqb, ltb-true, ltb-false, lt-ltb, le-ltb}
use Rattle.model.proofs.Basics.{mul-le-mul_right, pow_pos}
use Rattle.model.specs.{map_below, essential, pairs_allow, cost_to_go, overwrite, overwrite_at, cell_after, cells_needed, cells_after, lists_of, InRange}
use Rattle.model.specs.Sheet.{Sheet}
use Rattle.model.proofs.TaskLists.Masks.{lists_of_lem}
use Rattle.model.proofs.Tools.Tests.{tested, same_test, or_neither}
use Rattle.model.proofs.Tools.Folds.{length_map_below, map_below_at, map_below_cong}
use Rattle.model.proofs.Theory.Completions.{to_go_none}
use Rattle.model.proofs.Bytes.Overwriting.{length_over, over_front, over_below, over_in, over_beyond}
use mathlib.Core.Bool.{and-false, or-true}
use native.Mathlib.Nat.{le-div_iff_mul-le, div-lt_iff_lt-mul, zero-mul, one-mul}
use lib.Arith.{digits_lt, digits_div, digits_mod}
use Rattle.kernel_sheet.specs.declared.Counts.{Counts}
use Rattle.kernel_sheet.specs.declared.Numbers.{Numbers}
use Rattle.kernel_sheet.specs.Prepared.{CountsOf, EndsOf}
use Rattle.kernel_bellman.specs.Rests.{Arrayed}
use Rattle.kernel_table.specs.Cells.{cell_below, cells_below, Shown, Begun}

-- ---- one cell

module _ (S : Sheet) where
  -- the list of the cell is done with the next one just where it is done before, unless it is the next
  cell_same : (k i x : ℕ) → i / S.points ≢ k → cell_below S k i x ≡ cell_below S (k + 1) i x
  unfolding cell_below
  cell_same k i x n = ap (λ (t : Bool). cond (t && pairs_allow S (i / S.points)) (cost_to_go S (i / S.points) (i % S.points)) x) (same_test _ _
      (λ e. let l = ltb-true (i / S.points) k e in lt-ltb (i / S.points) (k + 1) (omega arith))
      (λ e. let l = ltb-true (i / S.points) (k + 1) e in lt-ltb (i / S.points) k (omega arith)))

  -- of a list that the pairs do not allow it stays
  cell_passed : (k i x : ℕ) → pairs_allow S (i / S.points) ≡ false → cell_below S k i x ≡ x
  unfolding cell_below
  cell_passed k i x a = rw (a, and-false)

  -- of a list that is done, and that the pairs allow, it is the cost to go
  cell_done : (k K p x : ℕ) → p < S.points → K < k → pairs_allow S K ≡ true → cell_below S k (K * S.points + p) x ≡ cost_to_go S K p
  unfolding cell_below
  cell_done k K p x point l a = rw (digits_div K point, digits_mod K point, lt-ltb K k l, a)

  -- what was done before is done over
  cell_again : (j k i x : ℕ) → j ≤ k → cell_below S k i (cell_below S j i x) ≡ cell_below S k i x
  unfolding cell_below
  cell_again j k i x l = again (ltb (i / S.points) k) (ltb (i / S.points) j) (pairs_allow S (i / S.points)) (cost_to_go S (i / S.points) (i % S.points))
      (λ e. let b = ltb-false (i / S.points) k e in le-ltb (i / S.points) j (omega arith))
    where
      again : (later early a : Bool) (c : ℕ) → (later ≡ false → early ≡ false) → cond (later && a) c (cond (early && a) c x) ≡ cond (later && a) c x
      again true early true c h = refl
      again true early false c h = rw and-false
      again false early a c h = rw (h refl)

module _ (S : Sheet) (cells : List ℕ) where
  cell_at : (k i : ℕ) → i < length cells → get_or (cells_below S k cells) i 0 ≡ cell_below S k i (get_or cells i 0)
  unfolding cells_below
  cell_at k i l = map_below_at (length cells) _ i 0 l

  -- ---- all cells

  pub length_done : (k : ℕ) → length (cells_below S k cells) ≡ length cells
  unfolding cells_below
  length_done k = length_map_below (length cells) _

  pub none_done : cells_below S 0 cells ≡ cells
  unfolding cell_below
  none_done = ext_get_or 0 _ _ (length_done 0) (λ i l. cell_at 0 i (rw length_done at l) ∙ rw (le-ltb (i / S.points) 0 (omega arith)))

  pub all_done : cells_below S (2 ^ S.tasks) cells ≡ cells_after S cells
  unfolding cells_below cell_below cells_after cell_after
  all_done = refl

  -- the row of the next list, written where it belongs
  pub row_done : (k : ℕ) → 0 < S.points → (k + 1) * S.points ≤ length cells → pairs_allow S k ≡ true → (row : List ℕ)
      → row ≡ map_below S.points (cost_to_go S k) → overwrite_at (k * S.points) row (cells_below S k cells) ≡ cells_below S (k + 1) cells
  row_done k some room a row e = ext_get_or 0 _ _ (length_over (k * S.points) row (cells_below S k cells) ∙ length_done k ∙ sym (length_done (k + 1)))
      (λ i l. let m : i < length cells = rw (length_over, length_done) at l in one i m ∙ sym (cell_at (k + 1) i m))
    where
      wide : length row ≡ S.points
      wide = ap length e ∙ length_map_below S.points (cost_to_go S k)

      fits : k * S.points + length row ≤ length (cells_below S k cells)
      fits = rw (wide, length_done) (omega arith)

      one : (i : ℕ) → i < length cells → get_or (overwrite_at (k * S.points) row (cells_below S k cells)) i 0 ≡ cell_below S (k + 1) i (get_or cells i 0)
      one i m = ⊎_elim
          (λ (w : ltb i (k * S.points) ≡ true).
          let l : i < k * S.points = ltb-true i (k * S.points) w in
          over_below (k * S.points) row (cells_below S k cells) fits i l ∙ cell_at k i m
          ∙ cell_same S k i _ (λ q. omega (arith, (div-lt_iff_lt-mul some).1 l)))
          (λ (w : ltb i (k * S.points) ≡ false). ⊎_elim
          (λ (v : ltb i ((k + 1) * S.points) ≡ true).
          let j : ℕ = i - k * S.points in
          let lo : k * S.points ≤ i = ltb-false i (k * S.points) w in
          let hi : i < (k + 1) * S.points = ltb-true i ((k + 1) * S.points) v in
          let is : i ≡ k * S.points + j = omega arith in
          let l : j < S.points = omega arith in
          rw is (over_in (k * S.points) row (cells_below S k cells) fits j (rw wide l)
          ∙ rw e (map_below_at S.points (cost_to_go S k) j 0 l) ∙ sym (cell_done S (k + 1) k j _ l (omega arith) a)))
          (λ (v : ltb i ((k + 1) * S.points) ≡ false).
          let lo : (k + 1) * S.points ≤ i = ltb-false i ((k + 1) * S.points) v in
          over_beyond (k * S.points) row (cells_below S k cells) fits i (rw wide (omega arith)) ∙ cell_at k i m
          ∙ cell_same S k i _ (λ q. omega (arith, (le-div_iff_mul-le some).1 lo)))
          (tested (ltb i ((k + 1) * S.points))))
          (tested (ltb i (k * S.points)))

  -- the next list is one that the pairs do not allow: it is passed over
  pub row_passed : (k : ℕ) → pairs_allow S k ≡ false → cells_below S k cells ≡ cells_below S (k + 1) cells
  row_passed k a = ext_get_or 0 _ _ (length_done k ∙ sym (length_done (k + 1)))
      (λ i l. let m : i < length cells = rw length_done at l in cell_at k i m ∙ one i (eqb (i / S.points) k) refl ∙ sym (cell_at (k + 1) i m))
    where
      one : (i : ℕ) (t : Bool) → eqb (i / S.points) k ≡ t → cell_below S k i (get_or cells i 0) ≡ cell_below S (k + 1) i (get_or cells i 0)
      one i true e =
          let n : pairs_allow S (i / S.points) ≡ false = ap (pairs_allow S) (eqb-true _ _ e) ∙ a in
          cell_passed S k i _ n ∙ sym (cell_passed S (k + 1) i _ n)
      one i false e = cell_same S k i _ (eqb-false _ _ e)

  -- ---- what is shown

  pub shown : (k : ℕ) → 0 < S.points → k * S.points ≤ length cells → Shown S k (cells_below S k cells)
  shown k some room K p l a point =
      cell_at k (K * S.points + p) (omega (arith, digits_lt l point)) ∙ cell_done S k K p _ point l a

  pub shown_after : 2 ^ S.tasks * S.points ≤ length cells → 0 < S.points → Shown S (2 ^ S.tasks) (cells_after S cells)
  shown_after room some = rw all_done at (shown (2 ^ S.tasks) some room)

-- ---- the first row, and what follows it

module _ (S : Sheet) (cells : List ℕ) where
  -- lists done anew, from cells in which some of them are done
  pub done_again : (j k : ℕ) → j ≤ k → cells_below S k (cells_below S j cells) ≡ cells_below S k cells
  done_again j k l = ext_get_or 0 _ _ (length_done S (cells_below S j cells) k ∙ length_done S cells j ∙ sym (length_done S cells k)) (λ i m.
      let n : i < length (cells_below S j cells) = rw length_done at m in
      let o : i < length cells = rw length_done at n in
      cell_at S (cells_below S j cells) k i n ∙ ap (cell_below S k i) (cell_at S cells j i o)
      ∙ cell_again S j k i (get_or cells i 0) l ∙ sym (cell_at S cells k i o))

  -- the end costs are the row of the empty list
  pub ends_done : InRange S → {n : ℕ} {row : List ℕ} → 0 < S.points → S.points ≤ length cells → n ≡ S.points → row ≡ map_below S.points S.end_cost
      → row ++ drop n cells ≡ cells_below S 1 cells
  unfolding overwrite pairs_allow
  ends_done R {n} {row} some room e h =
      let w : length row ≡ S.points = ap length h ∙ length_map_below S.points S.end_cost in
      ap (λ (m : ℕ). row ++ drop m cells) (e ∙ sym w)
      ∙ sym (over_front row cells (rw w room))
      ∙ ap₂ (λ (a : ℕ) (l : List ℕ). overwrite_at a row l) (sym (zero-mul S.points)) (sym (none_done S cells))
      ∙ row_done S cells 0 some (omega arith) refl row (h ∙ map_below_cong S.points _ _ (λ p l. sym (to_go_none S R p)))

  -- there is room for the first row
  pub first_held : cells_needed S ≤ length cells → S.points ≤ length cells
  unfolding cells_needed
  first_held room =
      let one : 1 ≤ 2 ^ S.tasks = pow_pos S.tasks in
      omega (arith, mul-le-mul_right S.points one, one-mul S.points)

-- what the code writes are the end costs
pub ends_row : (S : Sheet) (ends : List ℕ) {row : List ℕ} {m : ℕ} → EndsOf S ends → m ≡ S.points → row ≡ map_below m (λ p. get_or ends p 0) → row ≡ map_below S.points S.end_cost
ends_row S ends h e r = r ∙ rw e (map_below_cong S.points _ _ h)

-- two sheets that numbers are of need as many cells
pub same_needed : {S S' : Sheet} {x : Counts} → CountsOf S x → CountsOf S' x → cells_needed S' ≡ cells_needed S
unfolding cells_needed
same_needed c d = rw (← c.tasks, ← d.tasks, ← c.points, ← d.points) refl

-- with the end costs written the cells are begun, and all lists done from there are done from the beginning
module _ (S : Sheet) (cells : List ℕ) {X : List ℕ} (e : X ≡ cells_below S 1 cells) where
  pub begun : cells_needed S ≤ length cells → Begun S X
  begun room = record {
    room = rw (e, length_done) room;
    ends = e ∙ sym (done_again S cells 1 1 (omega arith)) ∙ ap (cells_below S 1) (sym e);
  }

  pub after_ends : cells_after S X ≡ cells_after S cells
  after_ends = sym (all_done S X) ∙ ap (cells_below S (2 ^ S.tasks)) e ∙ done_again S cells 1 (2 ^ S.tasks) (omega (arith, pow_pos S.tasks)) ∙ all_done S cells

-- ---- the loop over the lists

-- there are as many as the sheet has
pub lists_are : {S : Sheet} {x : Numbers} {columns : List ℕ} {lists : ℕ} → Arrayed S x columns → lists ≡ lists_of x.counts.tasks → lists ≡ 2 ^ S.tasks
lists_are {S} a e = e ∙ ap lists_of a.counts.tasks ∙ lists_of_lem S.tasks (omega (arith, a.workable.counts.tasks))

-- a turn of it. X: the cells where it begins; l: those cells with the lists below k done
module _ {S : Sheet} {X l : List ℕ} {k : ℕ} (b : Begun S X) (is : l ≡ cells_below S k X) (point : 0 < S.points) (more : k < 2 ^ S.tasks) where
  row_room : (k + 1) * S.points ≤ length X
  unfolding cells_needed
  row_room = let n : k + 1 ≤ 2 ^ S.tasks = omega (arith, more) in omega (arith, mul-le-mul_right S.points n, b.room)

  pub known_so : Shown S k l
  known_so = rw is (shown S X k point (omega (arith, row_room)))

  pub room_so : (k + 1) * S.points ≤ length l
  room_so = rw (is, length_done) row_room

  -- an essential list, whose row was written
  pub row_next : {new : List ℕ} → essential S k ≡ true → new ≡ overwrite_at (k * S.points) (map_below S.points (cost_to_go S k)) l → new ≡ cells_below S (k + 1) X
  unfolding pairs_allow
  row_next e q = q ∙ ap (overwrite_at (k * S.points) (map_below S.points (cost_to_go S k))) is ∙ row_done S X k point row_room (rw (e, or-true)) _ refl

  -- a list that is neither essential nor empty
  pub pass_next : {new : List ℕ} → 0 < k → essential S k ≡ false → new ≡ l → new ≡ cells_below S (k + 1) X
  unfolding pairs_allow
  pass_next some e q = q ∙ is ∙ row_passed S X k (or_neither (ne_eqb k 0 (λ z. omega (arith, some))) e)
