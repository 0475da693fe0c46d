-- Works first, then what is charged, each rule as often as it is. Assumes nothing.
use Rattle.kernel_list.proofs.Charges.{addable, summed}
use Rattle.kernel_list.proofs.charge_doors.Goals as goal

pub add_charges-requires : goal.add_charges-requires
add_charges-requires c =
    addable c.requires _ _ _ _ c.copy_works.ensures c.times.ensures

pub returns : goal.returns
returns c =
    summed c.requires _ _ _ _ c.copy_works.ensures c.times.ensures c.add_charges.ensures
