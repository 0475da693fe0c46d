-- Bytes 2 and 3, which every sheet has. Assumes nothing.
use Rattle.model.proofs.Basics.{arith}
use Rattle.model.specs.{decode_by, decode}
use Rattle.number.proofs.Bytes.{le_number_2}
use Rattle.view.proofs.Within.{head_within}
use Rattle.view.proofs.TaskSheet.end_load.Goals as goal

pub bytes_at-requires : goal.bytes_at-requires
bytes_at-requires c =
    omega (arith, head_within c.args.self.now.viewed)

pub returns : goal.returns
unfolding decode_by decode
returns c =
    omega (arith, le_number_2 _ _ c.bytes_at.ensures c.from_le_bytes.ensures)
