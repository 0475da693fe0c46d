-- Where the rests of a list stand in the table, counted back from its own row. Assumes nothing.
use Rattle.model.proofs.Basics.{◌≡◌, sym, ap, ◌∙◌, true, List, [], ◌∷◌, ◌++◌, append_assoc, ℕ, ◌+◌, ◌-◌, ◌*◌, ◌%◌, ◌^◌, ◌≤◌, ◌<◌, arith, length, get_or, take, drop, replicate}
use Rattle.model.proofs.Basics.{mul-le-mul_right, get_or-replicate, pow_pos, pow_mono, mul-le-mul, le_refl, length-append, length-take-le, take-append_seam}
use Rattle.model.proofs.Basics.{le-leb, List·getD-append}
use Rattle.model.specs.{map_below, overwrite_at, without, pairs_allow, cost_to_go, max_tasks, max_doors, InRange}
use Rattle.model.specs.Sheet.{Sheet}
use Rattle.model.proofs.TaskLists.Masks.{bit_le, without_is}
use Rattle.model.proofs.Theory.FirstTask.{first_bit, allow_without}
use Rattle.model.proofs.Tools.Folds.{length_map_below}
use Rattle.model.proofs.Tools.Arrays.{front_at}
use native.Mathlib.Nat.{mul_comm, add-mul, one-mul, mul-one, mod-eq_of_lt}
use lib.Arith.{digits_lt}
use Rattle.std.proofs.Math.Seq.{drop-append-add}
use Rattle.kernel_gather.specs.Gathering.{rest_at}
use Rattle.kernel_sheet.specs.Prepared.{CountsOf, DoorsOf, Workable}
use Rattle.kernel_sheet.specs.declared.Counts.{Counts}
use Rattle.kernel_sheet.specs.declared.Numbers.{Numbers}
use Rattle.kernel_bellman.specs.Rests.{is_first, Rests, Listed}
use Rattle.kernel_bellman.proofs.Bellman.{essential_allowed, without_lt}
use Rattle.kernel_table.specs.Cells.{Shown, backs_of, Backable, TableRests}

-- the numbers of a sheet's doors are what counting back asks, and gives
module _ {S : Sheet} {x : Counts} {columns tasks departs works : List ℕ} (W : Workable S) (C : CountsOf S x) (D : DoorsOf S columns tasks departs works) where
  pub backable : Backable x.points x.doors tasks departs
  backable = rw (C.points, C.doors) (record {
    points = W.counts.points;
    doors = W.counts.doors;
    task = λ d l. rw (D.task d l) (omega (arith, W.plannable.ranges.task d l, W.counts.tasks));
    depart = λ d l. rw (D.depart d l) (W.plannable.ranges.depart d l);
  })

  pub table_rests : {backs : List ℕ} → backs ≡ backs_of x.points x.doors tasks departs → TableRests S (replicate max_doors 0) backs
  unfolding backs_of
  table_rests e = record {
    slot = λ d l. get_or-replicate max_doors d 0 0 (omega (arith, l, W.counts.doors));
    back = λ d l. rw (e, C.points, C.doors) (front_at S.doors _ (replicate max_doors 0) d l ∙ rw (D.task d l, D.depart d l));
  }

-- P points, shifted by a task: 32 bits hold it, and it is no less than a point
module _ {P n : ℕ} {tasks departs : List ℕ} (B : Backable P n tasks departs) (d : ℕ) (l : d < n) where
  wide : P * 2 ^ get_or tasks d 0 < 2 ^ 32
  wide = let t : get_or tasks d 0 ≤ max_tasks = omega (arith, B.task d l) in omega (arith, mul-le-mul B.points (pow_mono t))

  pub shifted : P * 2 ^ get_or tasks d 0 % 2 ^ 32 ≡ P * 2 ^ get_or tasks d 0
  shifted = mod-eq_of_lt wide

  pub no_less : get_or departs d 0 ≤ P * 2 ^ get_or tasks d 0
  no_less = omega (arith, B.depart d l, mul-le-mul (le_refl P) (pow_pos (get_or tasks d 0)), mul-one P)

-- so far back from K times P, with v one of the bits of K
module _ (K v P q : ℕ) (l : v ≤ K) (one : 1 ≤ v) (m : q < P) where
  apart : (K - v) * P + P * v ≡ K * P
  apart = let e : K - v + v ≡ K = omega (arith, l) in ap (λ (n : ℕ). (K - v) * P + n) (mul_comm P v) ∙ sym (add-mul (K - v) v P) ∙ ap (λ (n : ℕ). n * P) e

  back_le : P * v - q ≤ K * P
  back_le = omega (arith, apart)

  back_is : K * P - (P * v - q) ≡ (K - v) * P + q
  back_is = omega (arith, apart, mul-le-mul_right P one, mul_comm P v, one-mul P)

-- the row of K begins at K times P, and the lists below K are shown
module _ {S : Sheet} {slots backs : List ℕ} (K : ℕ) (R : InRange S) (T : TableRests S slots backs) where
  module _ (d : ℕ) (l : d < S.doors) (e : is_first S K d ≡ true) where
    fits : 2 ^ S.task d ≤ K
    fits = bit_le (S.task d) K (first_bit S K (S.task d) e)

    at : rest_at slots backs (K * S.points ∷ []) d ≡ without K (S.task d) * S.points + S.depart d
    unfolding rest_at
    at = rw (T.slot d l, T.back d l, without_is K (S.task d) (first_bit S K (S.task d) e))
        (back_is K (2 ^ S.task d) S.points (S.depart d) fits (pow_pos (S.task d)) (R.depart d l))

  pub rests_below : {cells : List ℕ} → pairs_allow S K ≡ true → K * S.points ≤ length cells → Shown S K cells → Rests S K slots backs (K * S.points ∷ []) cells
  rests_below a room known = record {
    slot = λ d l e. rw (T.slot d l) (omega arith);
    back = λ d l e. rw (T.slot d l, T.back d l) (back_le K (2 ^ S.task d) S.points (S.depart d) (fits d l e) (pow_pos (S.task d)) (R.depart d l));
    cell = λ d l e. rw (at d l e) (omega (arith, room, digits_lt (without_lt S K (S.task d) e) (R.depart d l)));
    shows = λ d l e. rw (at d l e) (known (without K (S.task d)) (S.depart d) (without_lt S K (S.task d) e) (allow_without S K (S.task d) a e) (R.depart d l));
  }

-- ---- one list

-- the cells below its row stand apart from the rest of them
module _ {S : Sheet} {x : Numbers} {K r : ℕ} {columns : List ℕ} (h : Listed S x K r columns) (cells below rest : List ℕ) (parts : cells ≡ below ++ rest)
    (at : length below ≡ K * x.counts.points) where
  here : length below ≡ K * S.points
  here = rw (← h.arrays.counts.points) at

  -- they show the lists below it, so its rests stand in them
  pub rests_before : {slots backs : List ℕ} → TableRests S slots backs → Shown S K cells → Rests S K slots backs (K * x.counts.points ∷ []) below
  rests_before T known =
      let shown : Shown S K below = λ L p l a q. sym (List·getD-append below rest 0 (L * S.points + p) (omega (arith, here, digits_lt l q))) ∙ rw parts at (known L p l a q) in
      rw h.arrays.counts.points (rests_below K h.arrays.workable.plannable.ranges T (essential_allowed S K h.ess) (omega (arith, here)) shown)

  -- its row is the front of the rest
  module _ (room : (K + 1) * S.points ≤ length cells) where
    pub row_length : length (take x.counts.points rest) ≡ S.points
    row_length =
        let long : length cells ≡ length below + length rest = ap length parts ∙ length-append below rest in
        length-take-le _ _ (omega (arith, h.arrays.counts.points, here, long, room)) ∙ h.arrays.counts.points

    -- and what is written there is written over it
    pub row_over : {row : List ℕ} → row ≡ map_below S.points (cost_to_go S K)
        → below ++ (row ++ drop x.counts.points rest) ≡ overwrite_at (K * S.points) (map_below S.points (cost_to_go S K)) cells
    unfolding overwrite_at
    row_over e =
        let fits : K * S.points + S.points ≤ length cells = omega (arith, room) in
        rw (e, h.arrays.counts.points, length_map_below, le-leb (K * S.points + S.points) (length cells) fits, parts, ← here, take-append_seam, drop-append-add)
        (sym (append_assoc below (map_below S.points (cost_to_go S K)) (drop S.points rest)))
