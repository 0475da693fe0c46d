-- Once the lists below k are done the cells are `cells_below`, of every sheet that the arrays are of: a list that is essential has its row written, and any other is passed
-- over. Assumes nothing.
use Rattle.model.proofs.Basics.{◌≡◌}
use Rattle.model.specs.Sheet.{Sheet}
use Rattle.kernel_sheet.specs.Prepared.{ReceiversOf}
use Rattle.kernel_bellman.specs.Rests.{Arrayed}
use Rattle.kernel_table.specs.Cells.{cells_below, Begun, TableRests}
use Rattle.kernel_table.proofs.list_rows.Given as goal

abbrev pub invariant-loop-k : goal.invariant-loop-k
invariant-loop-k l = (S : Sheet) → Arrayed S l.from.numbers.now l.from.columns.now → ReceiversOf S l.from.numbers.now.tasks.receivers → TableRests S l.from.slot.now l.from.back.now
    → Begun S l.initial.cells → l.cells ≡ cells_below S l.k l.initial.cells
