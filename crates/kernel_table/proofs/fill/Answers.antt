-- The end costs are written, and then the rows of the lists. Assumes nothing.
use Rattle.model.proofs.Basics.{◌≡◌, sym, ◌∙◌, ◌++◌, ◌≤◌, List, ℕ, arith, length, take, drop, length-take-le}
use Rattle.model.specs.{cells_needed}
use Rattle.model.specs.Sheet.{Sheet}
use Rattle.kernel_sheet.specs.declared.Numbers.{Numbers}
use Rattle.kernel_sheet.specs.Prepared.{Prepared}
use Rattle.kernel_bellman.proofs.Lists.{arrayed}
use Rattle.kernel_table.specs.Cells.{cells_below}
use Rattle.kernel_table.proofs.Standing.{table_rests}
use Rattle.kernel_table.proofs.Filling.{first_held, same_needed, ends_row, ends_done, begun, after_ends}
use Rattle.kernel_table.proofs.fill.Goals.{After-backs-back}
use Rattle.kernel_table.proofs.fill.Goals as goal

module _ {S : Sheet} {x : Numbers} {columns : List ℕ} (cells : List ℕ) (h : Prepared S x columns) (enough : cells_needed S ≤ length cells) where
  -- there is room for the first row, and the code takes it
  first_room : x.counts.points ≤ length cells
  first_room = omega (arith, h.numbers.counts.points, first_held S cells enough)

  taken : length (take x.counts.points cells) ≡ x.counts.points
  taken = length-take-le _ _ first_room

  -- every sheet that is prepared needs no more than the cells
  room : (S' : Sheet) → Prepared S' x columns → cells_needed S' ≤ length cells
  room S' h' = omega (arith, same_needed h.numbers.counts h'.numbers.counts, enough)

-- the end costs are written
ends : (c : After-backs-back) (S : Sheet) → Prepared S c.args.x.now c.args.columns.now
    → c.end_row.new.out ++ drop c.args.x.now.counts.points c.args.cells.now ≡ cells_below S 1 c.args.cells.now
ends c S h =
    ends_done S c.args.cells.now h.workable.plannable.ranges h.workable.counts.one_point (first_held S c.args.cells.now (room c.args.cells.now c.requires.1 c.requires.2 S h)) h.numbers.counts.points
    (ends_row S c.args.x.now.ends h.numbers.ends (taken c.args.cells.now c.requires.1 c.requires.2 ∙ h.numbers.counts.points) c.end_row.ensures)

pub list_rows-requires : goal.list_rows-requires
list_rows-requires c =
    let h = c.requires.1 in (
      c.requires.0,
      arrayed h,
      h.numbers.tasks.receivers,
      table_rests h.workable h.numbers.counts h.numbers.doors c.backs-back.ensures,
      begun c.requires.0 c.args.cells.now (ends (goal.at.list_rows-requires c).After-backs-back c.requires.0 h) c.requires.2,
    )

pub returns : goal.returns
returns c S h =
    c.list_rows.ensures S (arrayed h) h.numbers.tasks.receivers (table_rests h.workable h.numbers.counts h.numbers.doors c.backs-back.ensures)
    (begun S c.args.cells.now (ends (goal.at.returns c).After-backs-back S h) (room c.args.cells.now c.requires.1 c.requires.2 S h)) ∙ after_ends S c.args.cells.now (ends (goal.at.returns c).After-backs-back S h)

pub slice_bounds-end_row-end : goal.slice_bounds-end_row-end
slice_bounds-end_row-end c =
    first_room c.args.cells.now c.requires.1 c.requires.2

pub slice_bounds-end_row-end-2 : goal.slice_bounds-end_row-end-2
slice_bounds-end_row-end-2 c =
    sym (taken c.args.cells.now c.requires.1 c.requires.2)
