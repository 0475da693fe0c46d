-- The plan with the doors left to add is the cheapest completion, and the list left can be completed; it has a lesser number with each door. Assumes nothing.
use Rattle.model.proofs.Basics.{◌≡◌, ◌<◌}
use Rattle.model.specs.{max_doors}
use Rattle.model.specs.Sheet.{Sheet}
use Rattle.kernel_table.proofs.Standing.{backable, table_rests}
use Rattle.kernel_complete.specs.Completed.{next_door, Completable}
use Rattle.kernel_complete.proofs.Choosing.{cell_is}
use Rattle.kernel_complete.proofs.Completing.{no_door, door_in_lem, fewer_left, one_door, all_doors}
use Rattle.kernel_complete.proofs.complete.Goals.{After-next_door-d}
use Rattle.kernel_complete.proofs.complete.Goals as goal

-- the door that was found: the rests stand where the code looks for them
is_next : (c : After-next_door-d) (S : Sheet) → let a = c.args in Completable S a.x.now a.columns.now a.k a.p a.cells.now →
    c.next_door-d.result ≡ next_door S c.loop-left.left c.loop-left.at
is_next c S h = c.next_door-d.ensures S (c.loop-left.invariant S h).open_still (table_rests h.prepared.workable h.prepared.numbers.counts h.prepared.numbers.doors c.backs-back.ensures)

in_array : (c : After-next_door-d) → c.next_door-d.result < max_doors
in_array c = let h = c.requires.1 in door_in_lem (c.loop-left.invariant _ h) c.loop-left-test.true (is_next c _ h)

pub backs-back-requires : goal.backs-back-requires
backs-back-requires c =
    let h = c.requires.1.prepared in backable h.workable h.numbers.counts h.numbers.doors

pub loop-left-init : goal.loop-left-init
loop-left-init c S h =
    no_door h c.new-plan.ensures (cell_is h)

pub next_door-d-requires : goal.next_door-d-requires
next_door-d-requires c =
    let h = c.requires.1 in
    ((_, (c.loop-left.invariant _ h).open_still, table_rests h.prepared.workable h.prepared.numbers.counts h.prepared.numbers.doors c.backs-back.ensures), c.loop-left-test.true)

pub loop-left-smaller : goal.loop-left-smaller
loop-left-smaller c =
    let h = c.requires.1 in
    fewer_left (c.loop-left.invariant _ h) c.loop-left-test.true (is_next (goal.at.loop-left-smaller c).After-next_door-d _ h) c.without-left.ensures

-- one door more is added, and its task struck off
pub loop-left-preserved : goal.loop-left-preserved
loop-left-preserved c S h =
    one_door (c.loop-left.invariant S h) c.loop-left-test.true (is_next (goal.at.loop-left-preserved c).After-next_door-d S h) c.without-left.ensures c.with_door-plan.ensures

pub returns : goal.returns
returns c S h =
    all_doors (c.loop-left.invariant S h) c.loop-left-test.false

pub bounds-x-d : goal.bounds-x-d
bounds-x-d c =
    in_array (goal.at.bounds-x-d c).After-next_door-d

pub bounds-x-d-in-loop-left : goal.bounds-x-d-in-loop-left
bounds-x-d-in-loop-left c =
    in_array (goal.at.bounds-x-d-in-loop-left c).After-next_door-d
