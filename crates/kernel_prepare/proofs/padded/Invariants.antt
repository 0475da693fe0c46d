-- The entries before i have their elements. Assumes nothing.
use Rattle.model.proofs.Basics.{◌≡◌, ◌<◌, ℕ}
use Rattle.kernel_prepare.proofs.Padding.{Padding}
use Rattle.kernel_prepare.proofs.padded.Given as goal

abbrev pub invariant-loop-i : goal.invariant-loop-i
invariant-loop-i g l = (f : ℕ → _) → ((k : ℕ) (x : _) → k < l.n → goal.F-post g l.element k x → x ≡ f k) → Padding l.fn.none g.row.N l.n f l.elements l.i
