-- The end costs are written, and then the rows of the lists, size after size. Assumes nothing.
use Rattle.model.proofs.Basics.{refl, sym, ◌++◌, ◌≤◌, List, ℕ, arith, drop, length-take-le}
use Rattle.model.specs.Sheet.{Sheet}
use Rattle.kernel_sheet.specs.declared.Numbers.{Numbers}
use Rattle.kernel_sheet.specs.Prepared.{Prepared}
use Rattle.kernel_bellman.proofs.Lists.{arrayed}
use Rattle.kernel_layers.specs.Layers.{layer_cells, Shows, Kept, LayerRests}
use Rattle.kernel_layers.proofs.Layering.{row_within, as_lent, half_filled, first_row, same_room, layer_rests}
use Rattle.kernel_layers.proofs.fill.Goals.{After-backs-back}
use Rattle.kernel_layers.proofs.fill.Goals as goal

-- there is room for the first row
first_room : {S : Sheet} {x : Numbers} {columns : List ℕ} {even : ℕ} → Prepared S x columns → layer_cells S ≤ even → x.counts.points ≤ even
first_room {S} P r = rw P.numbers.counts.points (row_within S r)

-- of each sheet that the numbers are of, the end costs are written, and the rests stand where the numbers say
module _ (c : After-backs-back) (S : Sheet) (P : Prepared S c.args.x.now c.args.columns.now) where
  ends_there : let a = c.args in
      let even = c.end_row.new.out ++ drop a.x.now.counts.points a.even.now in Shows S 0 even × Kept S 0 a.even.now even
  ends_there =
      first_row S _ c.args.x.now.ends P.workable.plannable.ranges (same_room c.requires.1.numbers.counts P.numbers.counts c.requires.2.room_below) P.numbers.ends
      P.numbers.counts.points c.end_row.ensures

  rests : LayerRests S c.args.x.now.doors.task c.backs-back.result
  rests = layer_rests P.workable P.numbers c.backs-back.ensures

pub sizes_rows-requires : goal.sizes_rows-requires
sizes_rows-requires c =
    let p = c.requires in
    let b = (goal.at.sizes_rows-requires c).After-backs-back in
    let e = ends_there b p.0 p.1 in
    (p.0, arrayed p.1, p.1.numbers.tasks.receivers, rests b p.0 p.1, record { room_below = omega (arith, p.2.room_below, e.1.as_many); room_here = p.2.room_here }, e.0)

pub returns : goal.returns
returns c S P =
    let b = (goal.at.returns c).After-backs-back in
    let e = ends_there b S P in
    let h = c.sizes_rows.ensures S (arrayed P) P.numbers.tasks.receivers (rests b S P) e.0 in
    let w = P.workable in
    (half_filled h.0 w.plannable.ranges w.counts.one_point refl e.1, half_filled h.1 w.plannable.ranges w.counts.one_point refl (as_lent S 1 _))

pub slice_bounds-end_row-end : goal.slice_bounds-end_row-end
slice_bounds-end_row-end c =
    first_room c.requires.1 c.requires.2.room_below

pub slice_bounds-end_row-end-2 : goal.slice_bounds-end_row-end-2
slice_bounds-end_row-end-2 c =
    sym (length-take-le _ _ (first_room c.requires.1 c.requires.2.room_below))
