-- A list has all of another where masking the other changes nothing. Assumes nothing.
use Rattle.model.proofs.Basics.{arith}
use Rattle.model.specs.{mask_bits}
use Rattle.kernel_list.proofs.Unions.{has_all_of}
use Rattle.kernel_list.proofs.has_all.Goals as goal

pub returns : goal.returns
returns c =
    has_all_of mask_bits _ _ (omega arith)
