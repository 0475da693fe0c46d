-- What fits has the row of the full list in the layer of its parity; what is refused has none. Assumes nothing.
use Rattle.model.proofs.Basics.{sym, ◌∙◌, length}
use Rattle.view.specs.Views.{Viewed}
use Rattle.view.proofs.Counted.{tasks_are, points_are}
use Rattle.sheet.proofs.Laid.{viewed, reads_laid}
use Rattle.kernel_layers.proofs.Layering.{row_within}
use Rattle.price.specs.Pricing.{row_place}
use Rattle.price.proofs.Fits.{Fits, fits, row_there, row_none}
use Rattle.price.proofs.row.Goals.{In-Ok}
use Rattle.price.proofs.row.Goals as goal

-- the sheet fits, and the view is its own
fitted : (c : In-Ok) → let a = c.args in Fits a.s.now (length a.even.now) (length a.odd.now)
unfolding row_place
fitted c = (fits _ _ _ _ (sym c.in-Ok.ensures.place)).0

seen : (c : In-Ok) → Viewed c.args.s.now c.in-Ok.read.sheet.view
seen c = viewed (reads_laid (fitted c).reads) c.in-Ok.ensures.view

pub whole-requires : goal.whole-requires
whole-requires c =
    let w = (goal.at.whole-requires c).In-Ok in
    rw (points_are (seen w)) (row_within _ (fitted w).even_room, row_within _ (fitted w).odd_room)

-- the part of the layer
pub returns-in-Ok : goal.returns-in-Ok
returns-in-Ok c =
    let w = (goal.at.returns-in-Ok c).In-Ok in
    c.whole.ensures ∙ row_there _ _ _ (fitted w) (tasks_are (seen w)) (points_are (seen w))

-- the empty part
pub returns-in-Err : goal.returns-in-Err
returns-in-Err c =
    row_none _ _ _ c.in-Err.ensures.place
