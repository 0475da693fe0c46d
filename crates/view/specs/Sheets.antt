-- The sheet that a value of the code stands for. Assumes nothing.
use Rattle.model.specs.Sheet.{Sheet}
use Rattle.model.specs.SheetLayout.{decode}
use Rattle.view.specs.declared.TaskSheet.{TaskSheet}

-- the sheet that the bytes stand for
abbrev pub sheet_of : TaskSheet → Sheet
sheet_of t = decode t.bytes.now
