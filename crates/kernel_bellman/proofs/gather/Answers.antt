-- The list is open and its rests stand in the cells, so its doors can be gathered. Assumes nothing.
use Rattle.kernel_bellman.specs.Rests.{OpenList}
use Rattle.kernel_bellman.proofs.Bellman.{opening, gatherable}
use Rattle.kernel_bellman.proofs.gather.Goals as goal

pub gather-count-requires : goal.gather-count-requires
gather-count-requires c =
    let S = c.requires.0 in
    let h = c.requires.1 in
    let O : OpenList S c.args.k c.open-open.result.load c.open-open.result.doors c.args.room.now.sums c.open-open.new.sums c.args.from.now.slot.now c.args.from.now.back.now c.args.ends.now c.args.cells.now =
    record { workable = h.arrays.workable; list = h.list; ess = h.ess; opened = c.open-open.ensures S (opening h); rests = c.requires.2 } in
    gatherable O
