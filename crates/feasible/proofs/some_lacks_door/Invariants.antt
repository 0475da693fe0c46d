-- The tasks of the doors so far are seen, and every task so far has a door. Assumes nothing.
use Rattle.model.proofs.Basics.{◌≡◌, false, ◌-◌}
use Rattle.model.specs.{any_below, lacks_door}
use Rattle.view.specs.Sheets.{sheet_of}
use Rattle.feasible.proofs.Served.{Seen}
use Rattle.feasible.proofs.some_lacks_door.Given as goal

abbrev pub invariant-loop-t : goal.invariant-loop-t
invariant-loop-t l = Seen (sheet_of l.sheet) l.seen l.doors.start × (any_below l.t (lacks_door (sheet_of l.sheet)) ≡ false) × (l.doors.end ≡ l.sheet.view.doors)

abbrev pub invariant-loop-doors : goal.invariant-loop-doors
invariant-loop-doors l = Seen (sheet_of l.sheet) l.seen l.doors.start × (l.doors.end ≡ l.sheet.view.doors)

abbrev pub decreases-loop-doors : goal.decreases-loop-doors
decreases-loop-doors l = l.sheet.view.doors - l.doors.start
