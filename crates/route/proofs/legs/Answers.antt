-- Before each turn the sum is the legs of the steps from i on, and the load that of the list that is open there; the turn takes step
-- i - 1 to them. Assumes nothing.
use Rattle.model.proofs.Basics.{◌≡◌, suc, ◌-◌, arith, length}
use Rattle.view.specs.Sheets.{sheet_of}
use mir.Syntax.{w64}
use mir.Val.{to_z}
use Rattle.route.proofs.Steps.{no_leg, point_in, Turn, its_door, its_task, from_in, to_in, load_grows}
use Rattle.route.proofs.Steps.{load_cast, next_leg, leg_fits}
use Rattle.route.proofs.legs.Goals.{In-loop-i}
use Rattle.route.proofs.legs.Goals as goal

turn : (c : In-loop-i) →
    let a = c.args in
    Turn (sheet_of a.sheet.now) a.p a.doors.now a.tasks.now (c.loop-i.i - 1) c.loop-i.sum (to_z w64 c.loop-i.load-bits)
turn c =
    let e : suc (c.loop-i.i - 1) ≡ c.loop-i.i = omega arith in
    record {
      asked = c.requires;
      behind = rw e c.loop-i.invariant;
    }

pub end_cost-sum-requires : goal.end_cost-sum-requires
end_cost-sum-requires c =
    let last = point_in c.requires (length c.args.doors.now) (omega arith) in
    let p = c.requires.point in
    omega arith

pub loop-i-init : goal.loop-i-init
loop-i-init c =
    no_leg _ _ _ c.point_before-last.ensures c.end_cost-sum.ensures c.end_load-load.ensures (omega arith)

pub change-requires : goal.change-requires
change-requires c =
    let t = turn (goal.at.change-requires c).In-loop-i in its_task t

pub overflow_add-load : goal.overflow_add-load
overflow_add-load c =
    load_grows (turn (goal.at.overflow_add-load c).In-loop-i) c.change.type_inv c.change.ensures

pub arrive-requires : goal.arrive-requires
arrive-requires c =
    let t = turn (goal.at.arrive-requires c).In-loop-i in its_door t

pub distance-requires : goal.distance-requires
distance-requires c =
    let t = turn (goal.at.distance-requires c).In-loop-i in
    let from = from_in t c.point_before-from.ensures in
    let to = to_in t c.arrive.ensures in
    (omega arith, omega arith)

pub overflow_cast-sum-in-loop-i-2 : goal.overflow_cast-sum-in-loop-i-2
overflow_cast-sum-in-loop-i-2 c =
    load_cast (turn (goal.at.overflow_cast-sum-in-loop-i-2 c).In-loop-i) c.change.type_inv c.change.ensures

pub work-requires : goal.work-requires
work-requires c =
    let t = turn (goal.at.work-requires c).In-loop-i in its_door t

-- one step more towards the start
pub loop-i-preserved : goal.loop-i-preserved
loop-i-preserved c =
    next_leg (turn (goal.at.loop-i-preserved c).In-loop-i) c.change.type_inv c.change.ensures c.point_before-from.ensures
    c.arrive.ensures c.distance.ensures c.work.ensures

-- the leg and the legs behind it
pub overflow_mul-sum : goal.overflow_mul-sum
overflow_mul-sum c =
    let t = turn (goal.at.overflow_mul-sum c).In-loop-i in
    let room = leg_fits t c.change.type_inv c.change.ensures c.point_before-from.ensures c.arrive.ensures c.distance.ensures in
    omega (arith, room)

pub overflow_add-sum : goal.overflow_add-sum
overflow_add-sum c =
    let t = turn (goal.at.overflow_add-sum c).In-loop-i in
    let room = leg_fits t c.change.type_inv c.change.ensures c.point_before-from.ensures c.arrive.ensures c.distance.ensures in
    omega (arith, room, c.work.ensures)

pub overflow_add-sum-in-loop-i : goal.overflow_add-sum-in-loop-i
overflow_add-sum-in-loop-i c =
    let t = turn (goal.at.overflow_add-sum-in-loop-i c).In-loop-i in
    let room = leg_fits t c.change.type_inv c.change.ensures c.point_before-from.ensures c.arrive.ensures c.distance.ensures in
    omega (arith, room, c.work.ensures)
