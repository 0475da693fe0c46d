-- The cells are cut before the row of the list: those below it show what they should, so its rests stand in them, and the row is the front of the others. Assumes nothing.
use Rattle.model.proofs.Basics.{◌+◌, ◌*◌, ◌≤◌, length}
use Rattle.kernel_table.proofs.Standing.{rests_before, row_length, row_over}
use Rattle.kernel_table.proofs.list_row.Goals as goal

pub list_row-requires : goal.list_row-requires
list_row-requires c =
    let p = c.requires in
    let cut = c.split_at_mut-below.ensures in (
      p.0,
      p.1,
      rests_before p.1 _ _ _ cut.value cut.front_len p.2 p.3,
      row_length p.1 _ _ _ cut.value cut.front_len p.4,
    )

pub returns : goal.returns
returns c S h t known =
    let p = c.requires in
    let cut = c.split_at_mut-below.ensures in
    -- there is as much room for every sheet that the numbers are of
    let room : (c.args.k + 1) * S.points ≤ length c.args.cells.now = rw (← h.arrays.counts.points, p.1.arrays.counts.points) p.4 in
    row_over h _ _ _ cut.value cut.front_len room (c.list_row.ensures S h (rests_before h _ _ _ cut.value cut.front_len t known))
