-- The tasks below t were struck off in turn. Once the list is empty, it stays empty. Assumes nothing.
use Rattle.model.proofs.Basics.{◌≡◌}
use Rattle.feasible.specs.Method.{pass_by}
use Rattle.feasible.proofs.strike_pass.Given as goal

abbrev pub invariant-loop-t : goal.invariant-loop-t
invariant-loop-t l = l.left ≡ pass_by l.senders l.t l.k
