-- The place so far is that of body i, and no contents line so far is wrong. Assumes nothing.
use Rattle.model.proofs.Basics.{◌≡◌, ◌+◌, ◌*◌, ◌^◌, ◌≤◌}
use Rattle.model.specs.{bodies, body_at, layout_of, wrong_line}
use Rattle.model.proofs.Tools.Searches.{Searched}
use Rattle.sheet.proofs.layout.wrong_places.Given as goal

abbrev pub invariant-loop-i : goal.invariant-loop-i
invariant-loop-i l = Searched bodies (wrong_line (layout_of l.s) l.s) l.i × (l.at ≡ body_at (layout_of l.s) l.s l.i) × (l.at ≤ 2 ^ 48 * (l.i + 1))
