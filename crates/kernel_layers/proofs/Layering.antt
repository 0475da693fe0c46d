-- A layer while the rows of one size are written into it, at their ranks: what is shown by then, and that every cell is as lent or an open cell of this layer.
-- Ranks of lists of one size are distinct, so no row of a size is written over another of that size. And where the rests of a list stand in the layer below. Assumes nothing.
use Rattle.model.proofs.Basics.{◌≡◌, refl, sym, ap, ap₂, ◌∙◌, ◌⊎◌, inl, inr, ⊎_elim, true, false, List, ◌++◌, ℕ, suc, ◌+◌, ◌-◌, ◌*◌, ◌/◌, ◌%◌, ◌^◌, ◌≤◌, ◌<◌, arith, ltb, length, get_or}
use Rattle.model.proofs.Basics.{ltb-true, ltb-false, mul-le-mul_right, pow_pos, pow_mono, ne_eqb, take, drop, length-take-le, replicate}
use Rattle.model.specs.{map_below, full, without, size, essential, pairs_allow, cost_to_go, overwrite, overwrite_at, mask_bits, max_tasks, max_doors, InRange}
use Rattle.model.specs.Sheet.{Sheet}
use Rattle.model.proofs.Tools.Tests.{by_test, by_last, not_both, or_neither}
use Rattle.model.proofs.Tools.Folds.{length_map_below, map_below_at, map_below_cong}
use Rattle.model.proofs.TaskLists.Masks.{full_lt, without_le, size_none, size_zero, size_full, size_without}
use Rattle.model.proofs.Theory.FirstTask.{first_bit, allow_without}
use Rattle.model.proofs.Theory.OpenAlong.{full_allowed}
use Rattle.model.proofs.Theory.Completions.{to_go_none}
use Rattle.model.proofs.Bytes.Overwriting.{length_over, over_front, over_below, over_in, over_beyond}
use lib.Arith.{digits_div, digits_mod}
use native.Mathlib.Nat.{zero-mul, one-mul, div-lt_iff_lt-mul}
use borrow.Rule.Slice.PartMut.{put_mid}
use Rattle.rank.specs.Binomials.{most_lists}
use Rattle.rank.specs.Ranks.{rank, max_ranked, rank_of, rank_ends, NextOfSize}
use Rattle.rank.proofs.Binomials.{binomial_most}
use Rattle.rank.proofs.Counting.{rank_distinct, rank_most, rank_full, rank_empty, rank_of_lem}
use Rattle.rank.proofs.Sizes.{size_narrow, full_least}
use Rattle.rank.proofs.Following.{none_among}
use Rattle.kernel_sheet.specs.declared.Counts.{Counts}
use Rattle.kernel_sheet.specs.declared.Numbers.{Numbers}
use Rattle.kernel_sheet.specs.Prepared.{CountsOf, EndsOf, NumbersOf, Workable}
use Rattle.model.proofs.Tools.Arrays.{front_at}
use Rattle.kernel_gather.specs.Gathering.{rest_at}
use Rattle.kernel_bellman.specs.Rests.{Rests, Listed}
use Rattle.kernel_bellman.proofs.Bellman.{essential_allowed}
use Rattle.kernel_bellman.proofs.Parts.{row_ends, row_length, row_written}
use Rattle.kernel_layers.specs.Layers.{layer_cells, OpenCell, with_row, LayerFilled, ShowsBelow, Shows, ShowsRests, Kept, Half, backs_of, Backable, LayerRests}

-- ---- a row written at its place

-- the row of P cells at place r: a cell of it, and one of another place
module _ (r P : ℕ) (f : ℕ → ℕ) (layer : List ℕ) (room : (r + 1) * P ≤ length layer) where
  fits : r * P + length (map_below P f) ≤ length layer
  fits = rw length_map_below (omega (arith, room))

  -- in the row
  row_at : (p : ℕ) → p < P → get_or (overwrite_at (r * P) (map_below P f) layer) (r * P + p) 0 ≡ f p
  row_at p l = over_in (r * P) (map_below P f) layer fits p (rw length_map_below l) ∙ map_below_at P f p 0 l

  -- a cell is in it, or stays
  row_cases : (Q : ℕ → Type 0) (i : ℕ) → ((p : ℕ) → p < P → i ≡ r * P + p → Q (f p)) → Q (get_or layer i 0) → Q (get_or (overwrite_at (r * P) (map_below P f) layer) i 0)
  row_cases Q i inside outside = by_test (ltb i (r * P))
      (λ w. rw (over_below (r * P) (map_below P f) layer fits i (ltb-true i (r * P) w)) outside)
      (λ w. let p : ℕ = i - r * P in let is : i ≡ r * P + p = omega (arith, ltb-false i (r * P) w) in by_test (ltb p P)
      (λ v. let l = ltb-true p P v in rw (is, row_at p l) (inside p l is))
      (λ v. rw (over_beyond (r * P) (map_below P f) layer fits i (rw length_map_below (omega (arith, is, ltb-false p P v)))) outside))

-- two cells of one layer in the same place are of the same rank
same_place : {P r q p u : ℕ} → p < P → u < P → r * P + p ≡ q * P + u → r ≡ q
same_place {P} {r} {q} l m e = sym (digits_div r l) ∙ ap (λ (x : ℕ). x / P) e ∙ digits_div q m

-- ---- the row of list K, written at its rank

-- a layer has room for a row
pub row_within : (S : Sheet) {cells : ℕ} → layer_cells S ≤ cells → S.points ≤ cells
unfolding layer_cells
row_within S h = omega (arith, mul-le-mul_right S.points (binomial_most S.tasks 0), one-mul S.points)

module _ (S : Sheet) (layer : List ℕ) (K : ℕ) (listed : K < 2 ^ S.tasks) (room : layer_cells S ≤ length layer) where
  -- there is room for it
  row_room : (rank S.tasks K + 1) * S.points ≤ length layer
  unfolding layer_cells
  row_room =
      let most : rank S.tasks K + 1 ≤ most_lists S.tasks = omega (arith, rank_most S.tasks K listed) in
      omega (arith, room, mul-le-mul_right S.points most)

  -- its cells are open cells of its layer
  kept_row : {parity : ℕ} {before : List ℕ} → Kept S parity before layer → pairs_allow S K ≡ true → size S.tasks K % 2 ≡ parity → Kept S parity before (with_row S K layer)
  unfolding with_row
  kept_row {parity} {before} h a e = record {
    as_many = length_over (rank S.tasks K * S.points) (map_below S.points (cost_to_go S K)) layer ∙ h.as_many;
    cells = λ i. row_cases (rank S.tasks K) S.points (cost_to_go S K) layer row_room (OpenCell S parity i (get_or before i 0)) i
        (λ p l q. inr (record {
          list = K;
          listed = listed;
          allowed = a;
          of_layer = e;
          ranked = rw (q, digits_div (rank S.tasks K) l);
          is = rw (q, digits_mod (rank S.tasks K) l);
        }))
        (h.cells i);
  }

  -- it is shown with those of its size before it; next: the lists of that size below are those below K, and K
  module _ {m next : ℕ} (h : ShowsBelow S m K layer) (e : size S.tasks K ≡ m)
      (upto : (L : ℕ) → L < next → L < 2 ^ S.tasks → size S.tasks L ≡ m → (L < K) ⊎ (L ≡ K)) where
    shows_row : ShowsBelow S m next (with_row S K layer)
    unfolding with_row
    shows_row = record {
      shown = λ L p l low s a point. ⊎_elim
          (λ (w : L < K). row_cases (rank S.tasks K) S.points (cost_to_go S K) layer row_room (λ y. y ≡ cost_to_go S L p) (rank S.tasks L * S.points + p)
          (λ q u same. absurd (omega (arith, rank_distinct S.tasks L K low listed (s ∙ sym e) (same_place point u same))))
          (h.shown L p w low s a point))
          (λ (w : L ≡ K). rw w (row_at (rank S.tasks K) S.points (cost_to_go S K) layer row_room p point))
          (upto L l low s);
    }

    -- or passed over, where the pairs do not allow it
    shows_pass : pairs_allow S K ≡ false → ShowsBelow S m next layer
    shows_pass n = record {
      shown = λ L p l low s a point. ⊎_elim
          (λ (w : L < K). h.shown L p w low s a point)
          (λ (w : L ≡ K). absurd (not_both a (ap (pairs_allow S) w ∙ n)))
          (upto L l low s);
    }

-- ---- cells that are kept

pub as_lent : (S : Sheet) (parity : ℕ) (layer : List ℕ) → Kept S parity layer layer
as_lent S parity layer = record { as_many = refl; cells = λ i. inl refl }

-- of one size after the other
kept_on : {S : Sheet} {parity : ℕ} {x y z : List ℕ} → Kept S parity x y → Kept S parity y z → Kept S parity x z
kept_on h g = record {
  as_many = g.as_many ∙ h.as_many;
  cells = λ i. ⊎_elim (λ e. ⊎_elim (λ d. inl (e ∙ d)) (λ c. inr (rw e c)) (h.cells i)) inr (g.cells i);
}

-- ---- the loop over the lists of one size

-- before: the layer where the loop begins; layer: the same with the lists of m tasks below k done. k is such a list, as long as it is one of the sheet's
pub record Filling (S : Sheet) (m : ℕ) (before : List ℕ) (lists : ℕ) (layer : List ℕ) (k : ℕ) : Type 0 where
  pub all : lists ≡ 2 ^ S.tasks
  pub some : 0 < k
  pub of_size : k < lists → size S.tasks k ≡ m
  pub shown : ShowsBelow S m k layer
  pub kept : Kept S (m % 2) before layer

-- it begins with the least of them
pub begin : {S : Sheet} {m lists : ℕ} {before : List ℕ} → lists ≡ 2 ^ S.tasks → 1 ≤ m → m ≤ S.tasks → Filling S m before lists before (full m)
unfolding full
begin {S} {m} {lists} {before} all one within = record {
  all = all;
  some = omega (arith, pow_mono one);
  of_size = λ l. size_narrow m S.tasks (full m) (full_lt m) within ∙ size_full m;
  shown = record { shown = λ K p l low s a point. absurd (omega (arith, full_least S.tasks m K low s)) };
  kept = as_lent S (m % 2) before;
}

module _ {S : Sheet} {m lists k : ℕ} {before layer : List ℕ} (h : Filling S m before lists layer k) (more : k < lists) where
  pub stands_in_sheet : k < 2 ^ S.tasks
  stands_in_sheet = omega (arith, h.all)

  -- a turn: next is the next list of that size
  module _ (few : S.tasks ≤ max_tasks) (room : layer_cells S ≤ length before) {next : ℕ} (n : NextOfSize mask_bits k next) where
    layer_room : layer_cells S ≤ length layer
    layer_room = omega (arith, room, h.kept.as_many)

    in_mask : (L : ℕ) → L < 2 ^ S.tasks → size mask_bits L ≡ size S.tasks L
    in_mask L l = size_narrow S.tasks mask_bits L l (omega (arith, few))

    upto : (L : ℕ) → L < next → L < 2 ^ S.tasks → size S.tasks L ≡ m → (L < k) ⊎ (L ≡ k)
    upto L l low s = by_test (ltb L (suc k))
        (λ w. by_last L k (ltb-true L (suc k) w) inr inl)
        (λ w. absurd (none_among S.tasks mask_bits k next (omega (arith, few)) n stands_in_sheet L (ltb-false L (suc k) w) l low (s ∙ sym (h.of_size more))))

    turn : {new : List ℕ} → ShowsBelow S m next new → Kept S (m % 2) before new → Filling S m before lists new next
    turn shown kept = record {
      all = h.all;
      some = omega (arith, n.above);
      of_size = λ l. let low : next < 2 ^ S.tasks = omega (arith, h.all) in sym (in_mask next low) ∙ n.same ∙ in_mask k stands_in_sheet ∙ h.of_size more;
      shown = shown;
      kept = kept;
    }

    -- the row of an essential list was written, or a list that is not essential was passed over
    pub row_turn : {new : List ℕ} → essential S k ≡ true → new ≡ with_row S k layer → Filling S m before lists new next
    row_turn e q = rw q (turn (shows_row S layer k stands_in_sheet layer_room h.shown (h.of_size more) upto)
        (kept_row S layer k stands_in_sheet layer_room h.kept (essential_allowed S k e) (ap (λ (i : ℕ). i % 2) (h.of_size more))))

    pub pass_turn : {new : List ℕ} → essential S k ≡ false → new ≡ layer → Filling S m before lists new next
    unfolding pairs_allow
    pass_turn e q = rw q (turn (shows_pass S layer k stands_in_sheet layer_room h.shown (h.of_size more) upto (or_neither (ne_eqb k 0 (λ z. omega (arith, h.some))) e)) h.kept)

-- ---- the loop over the sizes

-- when all sizes are done; before: the layer as it was before the end costs
module _ {S : Sheet} {parity m : ℕ} {lent layer : List ℕ} (h : Half S parity m lent layer) where
  pub half_filled : {before : List ℕ} → InRange S → 0 < S.points → m ≡ S.tasks → Kept S parity before lent → LayerFilled S parity before layer
  unfolding layer_cells
  half_filled {before} R point e k =
      let c : Kept S parity before layer = kept_on k h.kept in
      record {
        as_many = c.as_many;
        beyond = λ i l. ⊎_elim
            (λ e. e)
            (λ c. absurd (omega (arith, l, (div-lt_iff_lt-mul point).0 (rw c.ranked at (rank_most S.tasks c.list c.listed)))))
            (c.cells i);
        whole_round = λ q p l.
            let first : rank S.tasks (full S.tasks) * S.points + p ≡ p = rw (rank_full S.tasks) (omega arith) in
            rw first at ((h.shown (rw e q)).shown (full S.tasks) p (full_lt S.tasks) (full_lt S.tasks) (size_full S.tasks ∙ sym e) (full_allowed S R) l);
        others = λ i l. c.cells i;
      }

-- the even layer begins with the end costs, the row of the empty list
module _ (S : Sheet) (even ends : List ℕ) (R : InRange S) (room : layer_cells S ≤ length even) (E : EndsOf S ends) {n : ℕ} {row : List ℕ} (e : n ≡ S.points)
    (h : row ≡ map_below (length (take n even)) (λ p. get_or ends p 0)) where
  ends_row : row ++ drop n even ≡ with_row S 0 even
  unfolding with_row overwrite
  ends_row =
      let is : row ≡ map_below S.points (cost_to_go S 0) = h ∙ rw (length-take-le n even (rw e (row_within S room)), e)
      (map_below_cong S.points _ _ (λ p l. E p l ∙ sym (to_go_none S R p))) in
      let w : length row ≡ S.points = ap length is ∙ length_map_below S.points (cost_to_go S 0) in
      rw (rank_empty S.tasks, zero-mul, ← is, e ∙ sym w) (sym (over_front row even (rw w (row_within S room))))

  pub first_row : Shows S 0 (row ++ drop n even) × Kept S 0 even (row ++ drop n even)
  unfolding pairs_allow
  first_row = rw ends_row (
    shows_row S even 0 (pow_pos S.tasks) room (record { shown = λ K p l. absurd (omega arith) }) (size_none S.tasks) (λ L l low s. inr (size_zero S.tasks L low s)),
    kept_row S even 0 (pow_pos S.tasks) room (as_lent S 0 even) refl (ap (λ (i : ℕ). i % 2) (size_none S.tasks)),
  )

-- ---- by the numbers

-- sheets that the same numbers are of need as many cells
pub same_room : {S T : Sheet} {x : Counts} {n : ℕ} → CountsOf S x → CountsOf T x → layer_cells S ≤ n → layer_cells T ≤ n
unfolding layer_cells
same_room C D h = rw (sym D.tasks ∙ C.tasks, sym D.points ∙ C.points) h

-- the numbers of a sheet's doors are what counting back asks, and gives
module _ {S : Sheet} {x : Numbers} (W : Workable S) (N : NumbersOf S x) where
  pub backable : Backable x.counts.points x.counts.doors x.doors.depart
  backable = rw (N.counts.points, N.counts.doors) (record { doors = W.counts.doors; depart = λ d l. rw (N.doors.depart d l) (W.plannable.ranges.depart d l) })

  pub layer_rests : {backs : List ℕ} → backs ≡ backs_of x.counts.points x.counts.doors x.doors.depart → LayerRests S x.doors.task backs
  unfolding backs_of
  layer_rests e = record { slot = N.doors.task; back = λ d l. rw (e, N.counts.points, N.counts.doors) (front_at S.doors _ (replicate max_doors 0) d l ∙ rw (N.doors.depart d l)) }

-- the own row of K, as the code takes it: at its rank there is room for it, and what is written there is written over it
pub record OwnRow (S : Sheet) (K own n : ℕ) (here : List ℕ) : Type 0 where
  pub among : own + n ≤ length here
  pub long : length (take (own + n - own) (drop own here)) ≡ S.points
  pub over : {row : List ℕ} → row ≡ map_below S.points (cost_to_go S K) → put_mid own (own + n - own) here row ≡ with_row S K here

-- and the ends of the rows of K without each task
pub ends_many : {ends : List ℕ} (P K : ℕ) → ends ≡ rank_ends P K → length ends ≡ max_ranked
unfolding rank_ends
ends_many P K e = ap length e ∙ length_map_below max_ranked _

module _ {S : Sheet} {x : Numbers} {K r : ℕ} {columns : List ℕ} (h : Listed S x K r columns) where
  few : S.tasks ≤ max_ranked
  few = omega (arith, h.arrays.workable.counts.tasks)

  pub own_row : {own : ℕ} (here : List ℕ) → layer_cells S ≤ length here → own ≡ rank_of K * x.counts.points → OwnRow S K own x.counts.points here
  unfolding with_row
  own_row {own} here room e =
      let there : rank S.tasks K * S.points + S.points ≤ length here = omega (arith, row_room S here K h.list room) in
      let at : own ≡ rank S.tasks K * S.points = e ∙ ap₂ ◌*◌ (rank_of_lem S.tasks K few h.list) h.arrays.counts.points in
      record {
        among = row_ends _ _ here there at h.arrays.counts.points;
        long = row_length _ _ here there at h.arrays.counts.points;
        over = row_written _ _ here there at h.arrays.counts.points (cost_to_go S K);
      }

  -- which lists of the layer below a list needs: K without each task that can come first has one task less, is one that the pairs allow, and stands there at its
  -- rank. That the layer below still shows them is `Half`: it is written over only once the size that it is needed for is done
  module _ {slots backs ends below : List ℕ} (T : LayerRests S slots backs) (e : ends ≡ rank_ends x.counts.points K) (room : layer_cells S ≤ length below) (shown : ShowsRests S K below) where
    module _ (d : ℕ) (l : d < S.doors) where
      task : S.task d < S.tasks
      task = h.arrays.workable.plannable.ranges.task d l

      point : S.depart d < S.points
      point = h.arrays.workable.plannable.ranges.depart d l

      less : without K (S.task d) < 2 ^ S.tasks
      less = omega (arith, without_le K (S.task d), h.list)

      end_is : get_or ends (get_or slots d 0) 0 ≡ rank S.tasks (without K (S.task d)) * S.points + S.points
      unfolding rank_ends
      end_is = rw (T.slot d l, e, h.arrays.counts.points) (map_below_at max_ranked _ (S.task d) 0 (omega (arith, task, few))
          ∙ ap (λ (n : ℕ). n * S.points + S.points) (rank_of_lem S.tasks (without K (S.task d)) few less))

      at : rest_at slots backs ends d ≡ rank S.tasks (without K (S.task d)) * S.points + S.depart d
      unfolding rest_at
      at = rw (end_is, T.back d l) (omega (arith, point))

    pub rests_stand : Rests S K slots backs ends below
    rests_stand = record {
      slot = λ d l f. rw (T.slot d l, ends_many x.counts.points K e) (omega (arith, task d l, few));
      back = λ d l f. rw (end_is d l, T.back d l) (omega arith);
      cell = λ d l f. rw (at d l) (omega (arith, point d l, row_room S below (without K (S.task d)) (less d l) room));
      shows = λ d l f.
          let one : size S.tasks (without K (S.task d)) ≡ size S.tasks K - 1 = omega (arith, size_without S.tasks K (S.task d) (task d l) (first_bit S K (S.task d) f)) in
          rw (at d l) (shown.shown (without K (S.task d)) (S.depart d) (less d l) (less d l) one (allow_without S K (S.task d) (essential_allowed S K h.ess) f) (point d l));
    }
