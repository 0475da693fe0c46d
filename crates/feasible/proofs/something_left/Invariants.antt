-- What so many passes leave of the full list. Once empty, it stays empty. Assumes nothing.
use Rattle.model.proofs.Basics.{◌≡◌}
use Rattle.model.specs.{full_of, strike_off}
use Rattle.view.specs.Sheets.{sheet_of}
use Rattle.feasible.proofs.something_left.Given as goal

abbrev pub invariant-loop-pass : goal.invariant-loop-pass
invariant-loop-pass l = l.left ≡ strike_off (sheet_of l.sheet) l._pass (full_of (sheet_of l.sheet).tasks)
