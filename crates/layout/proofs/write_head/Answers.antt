-- The head is a row of numbers, and the row is written or left as a whole. Assumes nothing.
use Rattle.layout.proofs.Heads.{head_written}
use Rattle.layout.proofs.write_head.Goals as goal

pub returns : goal.returns
returns c =
    head_written _ _ _ _ c.head.ensures c.write_row.ensures
