-- What is asked of some sheet gives each call what it asks; and what they leave is what every such sheet says of the list. Assumes nothing.
use Rattle.model.proofs.Basics.{arith}
use Rattle.kernel_list.proofs.Opening.{list_small, firsts_small, loadable, chargeable, opened}
use Rattle.kernel_list.proofs.open.Goals as goal

pub load-load-requires : goal.load-load-requires
load-load-requires c =
    loadable c.requires.1

pub overflow_cast-k : goal.overflow_cast-k
overflow_cast-k c =
    omega (arith, list_small c.requires.1)

pub charge_doors-requires : goal.charge_doors-requires
charge_doors-requires c =
    chargeable c.requires.1 (omega arith)

pub returns : goal.returns
returns c S h =
    opened h c.doors_of-doors.ensures (omega arith) c.load-load.ensures c.charge_doors.ensures

pub doors_of-doors-requires : goal.doors_of-doors-requires
doors_of-doors-requires c =
    firsts_small c.requires.1 _
