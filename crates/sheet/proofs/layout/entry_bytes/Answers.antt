-- One test over the table. Assumes nothing.
use Rattle.model.proofs.Basics.{◌<◌}
use Rattle.model.specs.{bodies, kind1, layout_of, field_width, bytes_before, entry_bytes}
use Rattle.model.proofs.Tools.Tables.{values}
use Rattle.sheet.proofs.layout.entry_bytes.Goals as goal

pub returns : goal.returns
unfolding layout_of kind1 field_width bytes_before entry_bytes
returns c =
    let l : c.args.i < bodies = c.requires in rw (values (entry_bytes kind1))
