-- A sheet that reads goes on to be planned, and a fault of the sheet is the answer. Assumes nothing.
use Rattle.std.proofs.lemmas.Result.{err_from_is_err_and}
use Rattle.planner.proofs.Sheets.{in_parts, sheet_refused}
use Rattle.planner.proofs.plan.Goals as goal

-- the sheet is refused
pub returns-in_err-read : goal.returns-in_err-read
returns-in_err-read c =
    let a = c.args in
    let p = err_from_is_err_and c.from_residual.result c.from_residual.ensures.1 in
    let parts = in_parts (sheet_refused a.s.now a.cells.now a.buf.now c.in_err-read.ensures.answer) in
    rw (p.1, p.2) (record { answer = parts.0; cells = parts.1.0; bytes = parts.1.1 })

-- it reads
pub returns : goal.returns
returns c =
    let e = c.in_ok-read.ensures.bytes in
    let r = c.plan_sheet.ensures in
    record { answer = rw (← e) r.answer; cells = rw (← e) r.cells; bytes = rw (← e) r.bytes }
