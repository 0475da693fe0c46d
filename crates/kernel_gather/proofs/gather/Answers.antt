-- The front is that of the doors walked so far: a turn adds the lowest of the doors left. Assumes nothing.
use Rattle.model.proofs.Basics.{refl, ℕ, ◌+◌, ◌-◌, ◌^◌, ◌≤◌, ◌<◌, arith, length, get_or, rules}
use Rattle.model.specs.{max_doors}
use lib.Count.{count_trailing_zeros}
use Rattle.kernel_gather.specs.Gathering.{rest_at, part_at, way_at}
use Rattle.kernel_gather.proofs.Fronts.{no_front, front_next, front_whole}
use Rattle.kernel_gather.proofs.Walking.{NextDoor, none_walked, all_walked, next_door_lem, one_walked}
use Rattle.kernel_gather.proofs.gather.Goals.{In-loop-left}
use Rattle.kernel_gather.proofs.gather.Goals as goal

-- its door is the next of the set
abbrev this_door : In-loop-left → ℕ
this_door c = count_trailing_zeros max_doors c.loop-left.left

next : (c : In-loop-left) → NextDoor c.args.set (this_door c) c.loop-left.m
next c = next_door_lem c.loop-left.invariant.0 (omega arith)

-- so its end and its cell are there, and its part fits
abbrev this_slot : In-loop-left → ℕ
this_slot c = get_or c.args.slot.now (this_door c) 0

there : (c : In-loop-left) →
    let a = c.args in
    let end = get_or a.ends.now (this_slot c) 0 in
    let back = get_or a.back.now (this_door c) 0 in
    (this_slot c < length a.ends.now) × (back ≤ end) × (end - back < length a.cells.now)
    × (get_or a.sums.now (this_door c) 0 + get_or a.cells.now (end - back) 0 < 2 ^ 64)
unfolding rest_at part_at
there c =
    let p = c.requires in
    let m = (next c).listed in
    (p.slot _ m, p.back _ m, p.rest _ m, p.fits _ m)

pub loop-left-init : goal.loop-left-init
loop-left-init c =
    (none_walked (search rules), no_front _ _ _)

-- one door more at the front
pub loop-left-preserved : goal.loop-left-preserved
unfolding rest_at part_at way_at
loop-left-preserved c =
    let i = c.loop-left.invariant in
    let n = next (goal.at.loop-left-preserved c).In-loop-left in
    (one_walked i.0 (omega arith), front_next i.1 n.within (omega arith) n.is refl)

pub returns : goal.returns
returns c =
    let i = c.loop-left.invariant in let n = all_walked i.0 (omega arith) in record { count = n; ways = front_whole i.1 n }

pub bounds-ends-slot : goal.bounds-ends-slot
bounds-ends-slot c =
    omega (arith, there (goal.at.bounds-ends-slot c).In-loop-left)

pub overflow_sub-at : goal.overflow_sub-at
overflow_sub-at c =
    omega (arith, there (goal.at.overflow_sub-at c).In-loop-left)

pub offset_bounds-cells-at : goal.offset_bounds-cells-at
offset_bounds-cells-at c =
    omega (arith, there (goal.at.offset_bounds-cells-at c).In-loop-left)

pub bounds-cells-at : goal.bounds-cells-at
bounds-cells-at c =
    omega (arith, there (goal.at.bounds-cells-at c).In-loop-left)

pub overflow_add-ways : goal.overflow_add-ways
overflow_add-ways c =
    omega (arith, there (goal.at.overflow_add-ways c).In-loop-left)

pub bounds-ways-m : goal.bounds-ways-m
bounds-ways-m c =
    omega (arith, next (goal.at.bounds-ways-m c).In-loop-left)

pub loop-left-smaller : goal.loop-left-smaller
loop-left-smaller c =
    omega (arith, next (goal.at.loop-left-smaller c).In-loop-left)
