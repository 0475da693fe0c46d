-- A sheet that reads goes to the judge; a fault of the sheet is the answer. Assumes nothing.
use Rattle.std.proofs.Common.{rules}
use Rattle.validate.proofs.Judging.{sheet_refused}
use Rattle.validate.proofs.validate.Goals as goal

pub returns-in_err-read : goal.returns-in_err-read
returns-in_err-read c = search (rules, sheet_refused)
