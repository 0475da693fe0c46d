-- Each turn writes one number behind those that are written; where not all are in the buffer, none is. Assumes nothing.
use Rattle.model.proofs.Basics.{refl, arith}
use Rattle.model.proofs.Bytes.Rows.{none_written, one_written}
use Rattle.store.proofs.Writing.{row_unwritten}
use Rattle.store.proofs.write_row.Goals.{else-at-b-via-then-at-b+else-row-b, else-at-b-via-else-at-b}
use Rattle.store.proofs.write_row.Goals as goal

pub loop-i-init : goal.loop-i-init
loop-i-init c =
    none_written _ _ _ _ _ c.if-at-b.true

-- one number more is written
pub loop-i-preserved : goal.loop-i-preserved
loop-i-preserved c =
    one_written c.loop-i.invariant _ _ (omega arith) (omega arith) refl c.write_u16.ensures

pub returns-else-at-b : goal.returns-else-at-b
returns-else-at-b c =
    elim c.else-at-b.branch [ else-at-b-via-then-at-b+else-row-b w ↦ row_unwritten c.args.row.now _ _ (omega arith) | else-at-b-via-else-at-b w ↦ row_unwritten c.args.row.now _ _ (omega arith) ]
