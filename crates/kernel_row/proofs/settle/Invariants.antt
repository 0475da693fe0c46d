-- Whatever numbers stand in the floats, the cells before p hold those of the places before p. Assumes nothing.
use Rattle.model.proofs.Basics.{◌≡◌, ℕ, length}
use Rattle.model.proofs.Tools.Arrays.{Filled}
use Rattle.kernel_row.specs.Held.{Held}
use Rattle.kernel_row.proofs.settle.Given as goal

abbrev pub invariant-loop-p : goal.invariant-loop-p
invariant-loop-p l = (length l.out ≡ length l.initial.out) × ((f : ℕ → ℕ) → Held f (length l.initial.out) l.leasts → Filled f l.initial.out l.out l.p)
