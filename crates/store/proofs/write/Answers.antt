-- All the bytes are in the buffer, or none is stored. Assumes nothing.
use Rattle.model.proofs.Basics.{sym, arith}
use Rattle.model.proofs.Bytes.Overwriting.{over_not}
use Rattle.store.proofs.Writing.{part_written}
use Rattle.store.proofs.write.Goals.{else-i-b-via-then-i-b+else-bytes-b, else-i-b-via-else-i-b}
use Rattle.store.proofs.write.Goals as goal

-- there is room
pub returns-then-bytes-b : goal.returns-then-bytes-b
returns-then-bytes-b c =
    part_written _ _ _ _ (omega arith) c.copy_from_slice.ensures.after

-- there is none
pub returns-else-i-b : goal.returns-else-i-b
returns-else-i-b c =
    elim c.else-i-b.branch [ else-i-b-via-then-i-b+else-bytes-b w ↦ sym (over_not _ _ _ (omega arith)) | else-i-b-via-else-i-b w ↦ sym (over_not _ _ _ (omega arith)) ]
