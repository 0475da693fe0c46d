-- The next door of the cheapest completion: the first of the gathered doors through which the cost to go is attained. Assumes nothing.
use Rattle.model.proofs.Basics.{◌≡◌, refl, sym, ap, ◌∙◌, true, List, ◌∷◌, map, some, ℕ, ◌+◌, ◌^◌, ◌<◌, arith, length, get_or, length-map, eqb, eq-eqb, ne_eqb, ltb, lt-ltb}
use Rattle.model.specs.{member, without, essential, can_come_first, cost_to_go, cheapest_completion, max_doors, Plannable}
use Rattle.model.specs.Sheet.{Sheet}
use Rattle.model.proofs.Tools.Tests.{and_right, and_both}
use Rattle.model.proofs.Theory.Driving.{through_door, FirstDoor, first_door}
use Rattle.std.specs.Prelude.{Some, All, position}
use Rattle.std.specs.List.{position_or_len}
use Rattle.std.proofs.lemmas.List.{get_or_default}
use Rattle.std.proofs.lemmas.List.Sums.{position_or_len_is}
use Rattle.kernel_sheet.specs.declared.Way.{Way}
use Rattle.kernel_sheet.specs.Prepared.{BeginsOf, ColumnsOf}
use Rattle.kernel_gather.specs.Gathering.{doors_in, way_at}
use Rattle.kernel_gather.proofs.Passing.{passing_place, passing_rises}
use Rattle.kernel_gather.proofs.Walking.{doors_each}
use Rattle.kernel_row.specs.Leasts.{through_gathered}
use Rattle.kernel_bellman.specs.Rests.{OpenList}
use Rattle.kernel_bellman.proofs.Bellman.{essential_size, through_is, gathered}
use Rattle.kernel_complete.specs.Completed.{cost_by}

-- d is the door with which the cheapest completion of K from p begins, and the rest is the cheapest completion from there
pub record NextIs (S : Sheet) (K p d : ℕ) : Type 0 where
  pub rest : List ℕ
  pub stands_in_sheet : d < S.doors
  pub can : can_come_first S K (S.task d) ≡ true
  pub begins : cheapest_completion S K p ≡ some (d ∷ rest)
  pub goes_on : cheapest_completion S (without K (S.task d)) (S.depart d) ≡ some rest

-- the door of the model
module _ (S : Sheet) (G : Plannable S) (K p : ℕ) (below : K < 2 ^ S.tasks) (ess : essential S K ≡ true) where
  pub chosen : FirstDoor S G K p below (essential_size S K below ess).0 (essential_size S K below ess).1
  chosen = first_door S G K p below (essential_size S K below ess).0 (essential_size S K below ess).1

  pub chosen_next : NextIs S K p chosen.door
  chosen_next = record { rest = chosen.rest; stands_in_sheet = chosen.stands_in_sheet; can = chosen.can; begins = chosen.begins; goes_on = chosen.goes_on }

module _ {S : Sheet} {K w set : ℕ} {before sums slots backs ends cells : List ℕ} (O : OpenList S K w set before sums slots backs ends cells)
    (column : List ℕ) {columns : List ℕ} {ways : List Way} (B : BeginsOf S column) (C : ColumnsOf S columns)
    (H : ways ≡ map (way_at column sums slots backs ends cells) (doors_in set)) (p : ℕ) (l : p < S.points) where
  -- what the search asks: the entry of p in each column is there, and the cost fits
  pub searchable : All (λ way. (way.begin + p < length columns) × (cost_by columns w p way < 2 ^ 64)) ways
  unfolding through_gathered
  searchable i d k =
      let g = gathered O column B C H in
      rw (get_or_default ways i d (record { begin = 0; part = 0 }) k) (omega (arith, g.column i k, l), omega (arith, g.fits p i l k))

  abbrev door : let n = essential_size S K O.list O.ess in FirstDoor S O.workable.plannable K p O.list n.0 n.1
  door = chosen S O.workable.plannable K p O.list O.ess

  -- its place among the gathered ones, where the cost to go is attained
  place : (i : ℕ) × (i < length (doors_in set)) × (get_or (doors_in set) i 0 ≡ door.door)
  unfolding doors_in
  place = passing_place (member set) max_doors door.door (omega (arith, door.stands_in_sheet, O.workable.counts.doors))
      (O.opened.doors door.door ∙ and_both (lt-ltb door.door S.doors door.stands_in_sheet) door.can)

  count : length ways ≡ length (doors_in set)
  count = rw H (length-map (doors_in set) (way_at column sums slots backs ends cells))

  place_in : place.0 < length ways
  place_in = omega (arith, place.1, count)

  attained : through_gathered columns w ways p place.0 ≡ cost_to_go S K p
  attained = through_is O column B C H p place.0 l place_in ∙ ap (through_door S K p) place.2 ∙ door.equal

  rises : (i : ℕ) → i < place.0 → get_or (doors_in set) i 0 < get_or (doors_in set) place.0 0
  unfolding doors_in
  rises i k = passing_rises (member set) max_doors i place.0 k place.1

  -- no door before it attains the cost to go
  not_before : (i : ℕ) → i < place.0 → through_gathered columns w ways p i ≡ cost_to_go S K p → ⊥
  not_before i k e =
      let n : i < length (doors_in set) = omega (arith, place.1) in
      let d : get_or (doors_in set) i 0 < door.door = omega (arith, rises i k, place.2) in
      let first = and_right (ltb (get_or (doors_in set) i 0) S.doors) _ (sym (O.opened.doors (get_or (doors_in set) i 0)) ∙ (doors_each set i n).1) in
      omega (arith, door.none_before (get_or (doors_in set) i 0) d first, through_is O column B C H p i l (omega (arith, count)))

  -- so the search finds its place, where the next door stands
  pub found : {here : ℕ} → here ≡ cost_to_go S K p
      → (i : ℕ) × (position (λ way. eqb (cost_by columns w p way) here) ways ≡ Some i) × (i < length (doors_in set)) × NextIs S K p (get_or (doors_in set) i 0)
  unfolding through_gathered
  found {here} h =
      let e : position_or_len (λ way. eqb (cost_by columns w p way) here) ways ≡ place.0 = position_or_len_is (λ way. eqb (cost_by columns w p way) here) ways place.0
      (record { begin = 0; part = 0 }) (omega (arith, place_in)) (λ i k. ne_eqb _ here (λ q. not_before i k (q ∙ h))) (λ _. eq-eqb _ here (attained ∙ sym h)) in
      (place.0, rw (e, lt-ltb place.0 (length ways) place_in) refl, place.1, rw place.2 (chosen_next S O.workable.plannable K p O.list O.ess))
