-- Entry after entry from the front: the entry of p in the column of q stands at q times the points and p. Assumes nothing.
use Rattle.model.proofs.Basics.{◌+◌, ◌*◌}
use Rattle.view.specs.Sheets.{sheet_of}
use Rattle.model.proofs.Tools.Arrays.{Filled}
use Rattle.kernel_columns.proofs.Entries.{entry}
use Rattle.kernel_columns.proofs.columns.Given as goal

abbrev pub invariant-loop-q : goal.invariant-loop-q
invariant-loop-q l = Filled (entry (sheet_of l.sheet)) l.initial.out l.out (l.q * (sheet_of l.sheet).points)

abbrev pub invariant-loop-p : goal.invariant-loop-p
invariant-loop-p l = Filled (entry (sheet_of l.sheet)) l.fn.out l.out (l.q * (sheet_of l.sheet).points + l.p)
