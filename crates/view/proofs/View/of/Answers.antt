-- Each count is what its contents line states, and each body begins behind the one before it. Assumes nothing.
use Rattle.model.specs.{kind1, field_width, bytes_before, entry_bytes, line_at, decode_by, layout_of, decode}
use Rattle.view.specs.Views.{places_of, view_of}
use Rattle.view.proofs.View.of.Goals as goal

-- each place in turn, from the last to the first, and then each count
pub returns : goal.returns
unfolding places_of view_of line_at layout_of kind1 field_width bytes_before entry_bytes decode_by decode
returns c =
    rw (c.behind-distances_at.ensures, c.behind-points_at.ensures, c.behind-rules_at.ensures, c.behind-pairs_at.ensures, c.behind-starts_at.ensures, c.behind-doors_at.ensures)
    (rw (c.entries-points.ensures, c.entries-rules.ensures, c.entries-pairs.ensures, c.entries-starts.ensures, c.entries-doors.ensures)
    (rw c.entries-tasks.ensures))
