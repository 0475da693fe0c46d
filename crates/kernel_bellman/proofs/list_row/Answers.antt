-- What is gathered gives the costs to go. Assumes nothing.
use Rattle.model.proofs.Basics.{sym, ◌∙◌, arith}
use Rattle.kernel_gather.proofs.Walking.{doors_few}
use Rattle.kernel_bellman.proofs.Bellman.{rowable, row_of}
use Rattle.kernel_bellman.proofs.list_row.Goals as goal

pub shared_ref_as_front-row : goal.shared_ref_as_front-row
shared_ref_as_front-row c =
    omega (arith, c.gather-hand.ensures.count, doors_few c.gather-hand.result.doors)

pub row-requires : goal.row-requires
row-requires c =
    let p = c.requires in
    let h = p.1 in
    rowable (c.gather-hand.ensures.open p.0 h p.2) _ h.arrays.begin h.arrays.columned c.gather-hand.ensures.ways p.3

pub returns : goal.returns
returns c S h rests =
    let p = c.requires in
    row_of (c.gather-hand.ensures.open S h rests) _ h.arrays.begin h.arrays.columned c.gather-hand.ensures.ways (p.3 ∙ sym p.1.arrays.counts.points ∙ h.arrays.counts.points) c.row.ensures
