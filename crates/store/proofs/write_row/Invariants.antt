-- Each turn writes one number behind those that are written. Assumes nothing.
use Rattle.model.proofs.Basics.{length, get_or}
use Rattle.model.proofs.Bytes.Rows.{Written}
use Rattle.store.proofs.write_row.Given as goal

abbrev pub invariant-loop-i : goal.invariant-loop-i
invariant-loop-i l = Written 2 (length l.row) l.at (λ j. get_or l.row j 0) l.initial.b l.b l.i
