-- The limits are those of the tables at i. Assumes nothing.
use Rattle.sheet.proofs.Places.{limits}
use Rattle.sheet.proofs.layout.wrong_entries.Goals as goal

pub returns : goal.returns
returns c =
    limits _ c.args.i _ c.requires c.entries-count.ensures
