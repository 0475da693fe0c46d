-- What is gathered from cells in which the rests of a list stand gives the cost to go with that list open: Bellman's equation, as the code computes it. Assumes nothing.
use Rattle.model.proofs.Basics.{◌≡◌, refl, sym, ap, ◌∙◌, true, List, map, ℕ, zero, suc, ◌+◌, ◌-◌, ◌*◌, ◌^◌, ◌≤◌, ◌<◌, arith, length, get_or, ltb, ltb-true}
use Rattle.model.proofs.Basics.{length-map, pow_pos, mul-le-mul_right, List·getD-append}
use Rattle.model.specs.{map_below, overwrite, without, size, member, essential, pairs_allow, can_come_first, first_doors, charges, step_cost, cost_to_go, least}
use Rattle.model.specs.Sheet.{Sheet}
use Rattle.model.proofs.Tools.Tests.{and_left, and_right}
use Rattle.model.proofs.Tools.Folds.{map_below_cong, length_map_below, map_below_at}
use Rattle.std.proofs.lemmas.List.{get_or-map}
use Rattle.model.proofs.TaskLists.Masks.{bit_le, without_is, size_zero}
use Rattle.model.proofs.Theory.FirstTask.{first_bit}
use Rattle.model.proofs.Theory.Driving.{through_door, to_go_by_first, first_door, through_bound}
use mathlib.Core.Bool.{false≢true, or-true}
use Rattle.kernel_sheet.specs.Prepared.{BeginsOf, ColumnsOf}
use Rattle.kernel_sheet.specs.declared.Numbers.{Numbers}
use Rattle.kernel_sheet.specs.declared.Way.{Way}
use Rattle.kernel_list.specs.Lists.{Opening}
use Rattle.kernel_gather.specs.Gathering.{doors_in, part_at, way_at, Gatherable}
use Rattle.kernel_gather.proofs.Walking.{doors_few, doors_each, doors_in_are}
use Rattle.kernel_gather.proofs.Passing.{passing_place}
use Rattle.kernel_row.specs.Leasts.{entry_at, nth_way, through_gathered, least_from, Gathered, Rowable}
use Rattle.kernel_row.proofs.Minimums.{least_mapped}
use Rattle.kernel_bellman.specs.Rests.{is_first, Listed, OpenList}

-- ---- an essential list

pub essential_some : (S : Sheet) (K : ℕ) → essential S K ≡ true → 0 < K
unfolding essential
essential_some S zero e = absurd (false≢true e)
essential_some S (suc K) e = omega arith

pub essential_allowed : (S : Sheet) (K : ℕ) → essential S K ≡ true → pairs_allow S K ≡ true
unfolding pairs_allow
essential_allowed S K e = rw (e, or-true)

-- it has some task
pub essential_size : (S : Sheet) (K : ℕ) → K < 2 ^ S.tasks → essential S K ≡ true → (k : ℕ) × (size S.tasks K ≡ suc k)
essential_size S K l e = go (size S.tasks K) refl
  where
    go : (n : ℕ) → size S.tasks K ≡ n → (k : ℕ) × (size S.tasks K ≡ suc k)
    go zero q = absurd (omega (arith, size_zero S.tasks K l q, essential_some S K e))
    go (suc k) q = (k, q)

-- a task that can come first leaves a list with a lesser number
pub without_lt : (S : Sheet) (K t : ℕ) → can_come_first S K t ≡ true → without K t < K
without_lt S K t e = let b = first_bit S K t e in omega (arith, without_is K t b, bit_le t K b, pow_pos t)

-- ---- a list that is open

-- it can be opened
pub opening : {S : Sheet} {x : Numbers} {K r : ℕ} {columns : List ℕ} → Listed S x K r columns → Opening S x K r
opening h = record {
  workable = h.arrays.workable;
  counts = h.arrays.counts;
  list = h.list;
  ess = h.ess;
  waiting = h.waiting;
  change = h.arrays.change;
  set = h.arrays.set;
  work = h.arrays.work;
  rules = h.arrays.rules;
}

module _ {S : Sheet} {K w set : ℕ} {before sums slots backs ends cells : List ℕ} (O : OpenList S K w set before sums slots backs ends cells) where
  -- ---- each door

  door_in_lem : (d : ℕ) → member set d ≡ true → (d < S.doors) × (is_first S K d ≡ true)
  door_in_lem d e = let a = sym (O.opened.doors d) ∙ e in (ltb-true d S.doors (and_left (ltb d S.doors) _ a), and_right (ltb d S.doors) _ a)

  -- the doors of the set are those that can come first
  pub doors_are : doors_in set ≡ first_doors S K
  unfolding first_doors
  doors_are = doors_in_are set S.doors (is_first S K) O.workable.counts.doors O.opened.doors

  -- at each of them stands its work and its charges
  sum_is : (d : ℕ) → d < S.doors → get_or sums d 0 ≡ S.work d + charges S K d
  unfolding overwrite
  sum_is d l = rw O.opened.sums (List·getD-append (map_below S.doors _) _ 0 d (rw length_map_below l) ∙ map_below_at S.doors _ d 0 l)

  -- the way to the door and its part are the door and the cost to go from where it leads
  door_is : (p d : ℕ) → d < S.doors → is_first S K d ≡ true → S.distance p (S.arrive d) * w + part_at sums slots backs ends cells d ≡ through_door S K p d
  unfolding part_at through_door step_cost
  door_is p d l e = rw (O.rests.shows d l e, sum_is d l, O.opened.load) (omega arith)

  -- no sum needs more than 56 bits
  sum_small : (p d : ℕ) → d < S.doors → is_first S K d ≡ true → through_door S K p d < 2 ^ 56
  sum_small p d l e = let b : through_door S K p d ≤ 2 ^ 56 - 1 = through_bound S O.workable.plannable K p O.list (2 ^ 56 - 1)
      (λ ds a. let c = O.workable.sums K p ds a in omega (arith, c)) d l e in omega (arith, b)

  part_small : (d : ℕ) → d < S.doors → is_first S K d ≡ true → part_at sums slots backs ends cells d < 2 ^ 56
  part_small d l e = omega (arith, door_is 0 d l e, sum_small 0 d l e)

  pub gatherable : Gatherable set sums slots backs ends cells
  gatherable = record {
    slot = λ d e. let i = door_in_lem d e in O.rests.slot d i.0 i.1;
    back = λ d e. let i = door_in_lem d e in O.rests.back d i.0 i.1;
    rest = λ d e. let i = door_in_lem d e in O.rests.cell d i.0 i.1;
    fits = λ d e. let i = door_in_lem d e in omega (arith, part_small d i.0 i.1);
  }

  -- ---- the doors gathered

  -- the i-th of them
  abbrev nth : ℕ → ℕ
  nth i = get_or (doors_in set) i 0

  each : (i : ℕ) → i < length (doors_in set) → (nth i < S.doors) × (is_first S K (nth i) ≡ true)
  each i l = door_in_lem (nth i) (doors_each set i l).1

  -- as gathering leaves them
  module _ (column : List ℕ) {columns : List ℕ} {ways : List Way} (B : BeginsOf S column) (C : ColumnsOf S columns)
      (H : ways ≡ map (way_at column sums slots backs ends cells) (doors_in set)) where
    count : length ways ≡ length (doors_in set)
    count = rw H (length-map (doors_in set) (way_at column sums slots backs ends cells))

    first : (i : ℕ) → i < length ways → (nth i < S.doors) × (is_first S K (nth i) ≡ true)
    first i l = each i (rw count at l)

    way : (i : ℕ) → i < length ways → nth_way ways i ≡ way_at column sums slots backs ends cells (nth i)
    way i l = rw H (get_or-map (way_at column sums slots backs ends cells) (doors_in set) i 0 _ (rw count at l))

    -- the entry of a point in the column of the i-th door is the distance to where that arrives
    entry_is : (p i : ℕ) → p < S.points → i < length ways → entry_at columns (nth_way ways i).begin p ≡ S.distance p (S.arrive (nth i))
    unfolding way_at
    entry_is p i l k =
        let f = first i k in
        rw (way i k, B (nth i) f.0) (C.entry p (S.arrive (nth i)) l (O.workable.plannable.ranges.arrive (nth i) f.0))

    pub through_is : (p i : ℕ) → p < S.points → i < length ways → through_gathered columns w ways p i ≡ through_door S K p (nth i)
    unfolding through_gathered way_at
    through_is p i l k = rw (entry_is p i l k, way i k) (door_is p (nth i) (first i k).0 (first i k).1)

    -- that is what a cost through the doors asks
    pub gathered : Gathered columns S.points w ways
    unfolding way_at
    gathered = record {
      doors = omega (arith, doors_few set, count);
      column = λ i k.
          let f = first i k in
          let a : S.arrive (nth i) + 1 ≤ S.points = omega (arith, O.workable.plannable.ranges.arrive (nth i) f.0) in
          rw (way i k) (omega (arith, B (nth i) f.0, mul-le-mul_right S.points a, C.room));
      wide = λ p i l k. rw (entry_is p i l k) (O.workable.distance p (S.arrive (nth i)) l (O.workable.plannable.ranges.arrive (nth i) (first i k).0));
      fits = λ p i l k. rw (through_is p i l k) (omega (arith, sum_small p (nth i) (first i k).0 (first i k).1));
    }

    -- and what a row of n cells does
    pub rowable : {n : ℕ} → n ≡ S.points → Rowable columns n w ways
    rowable e = rw e (record { few = O.workable.counts.points; gathered = gathered })

    -- ---- the least over them

    -- some door can come first
    some_first : 0 < length (doors_in set)
    unfolding first_doors
    some_first =
        let k = essential_size S K O.list O.ess in
        let f = first_door S O.workable.plannable K 0 O.list k.0 k.1 in
        rw doors_are (omega (arith, (passing_place (is_first S K) S.doors f.door f.stands_in_sheet f.can).1))

    pub least_is : (p : ℕ) → p < S.points → least_from columns w ways p ≡ cost_to_go S K p
    unfolding least_from
    least_is p l =
        let k = essential_size S K O.list O.ess in
        rw count (least_mapped _ (through_door S K p) (doors_in set) some_first (λ i v. through_is p i l (rw count v))
        (λ i v. let g = each i v in omega (arith, sum_small p (nth i) g.0 g.1))
        ∙ ap (λ (ds : List ℕ). least (map (through_door S K p) ds)) doors_are
        ∙ sym (to_go_by_first S O.workable.plannable K p O.list k.0 k.1))

    -- a row whose cells are these is that of the costs to go
    pub row_of : {n : ℕ} {row : List ℕ} → n ≡ S.points → row ≡ map_below n (least_from columns w ways) → row ≡ map_below S.points (cost_to_go S K)
    row_of e h = h ∙ rw e (map_below_cong S.points _ _ least_is)
