-- The rests of the list stand in the layer below, at their ranks; so the row that is made from there is its own, and it is written at its own rank. Assumes nothing.
use Rattle.model.proofs.Basics.{arith}
use Rattle.model.specs.Sheet.{Sheet}
use Rattle.kernel_bellman.specs.Rests.{Listed, Rests}
use Rattle.kernel_layers.specs.Layers.{ShowsRests, LayerRests}
use Rattle.kernel_layers.proofs.Layering.{same_room, OwnRow, own_row, rests_stand}
use Rattle.kernel_layers.proofs.list_row.Goals.{After-rows-rows}
use Rattle.kernel_layers.proofs.list_row.Goals as goal

-- of each sheet that the list is of
module _ (c : After-rows-rows) (S : Sheet) (l : Listed S c.args.from.now.numbers.now c.args.k c.args.waiting c.args.from.now.columns.now) where
  -- its row is among the cells, and begins where the code has it
  own : OwnRow S c.args.k c.rows-rows.result.own c.args.from.now.numbers.now.counts.points c.args.here.now
  own = let p = c.requires in own_row l c.args.here.now (same_room p.1.arrays.counts l.arrays.counts p.3.room_here) c.rows-rows.ensures.own

  -- its rests stand in the layer below
  rests : let f = c.args.from.now in LayerRests S f.slot.now f.back.now → ShowsRests S c.args.k c.args.below.now → Rests S c.args.k f.slot.now f.back.now c.rows-rows.result.ends c.args.below.now
  rests t w = let p = c.requires in rests_stand l t c.rows-rows.ensures.ends (same_room p.1.arrays.counts l.arrays.counts p.3.room_below) w

pub overflow_add-row : goal.overflow_add-row
overflow_add-row c =
    record { fits = omega (arith, (own (goal.at.overflow_add-row c).After-rows-rows _ c.requires.1).among, c.well_formed) }

pub offset_bounds-here-rows : goal.offset_bounds-here-rows
offset_bounds-here-rows c =
    record { fits = omega (arith, (own (goal.at.offset_bounds-here-rows c).After-rows-rows _ c.requires.1).among, c.well_formed) }

pub slice_bounds-row-end : goal.slice_bounds-row-end
slice_bounds-row-end c =
    (own (goal.at.slice_bounds-row-end c).After-rows-rows _ c.requires.1).among

pub list_row-requires : goal.list_row-requires
list_row-requires c =
    let p = c.requires in
    let r = (goal.at.list_row-requires c).After-rows-rows in
    (p.0, p.1, rests r p.0 p.1 p.2 p.4, (own r p.0 p.1).long)

pub returns : goal.returns
returns c S l t w =
    let r = (goal.at.returns c).After-rows-rows in
    (own r S l).over (c.list_row.ensures S l (rests r S l t w))
