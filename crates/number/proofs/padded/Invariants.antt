-- Each turn adds the next byte. Assumes nothing.
use Rattle.model.proofs.Basics.{get_or}
use Rattle.model.proofs.Tools.Arrays.{Filled}
use Rattle.number.proofs.padded.Given as goal

abbrev pub invariant-loop-k : goal.invariant-loop-k
invariant-loop-k g l = Filled (λ k. get_or l.rest k 0) l.initial.bytes l.bytes l.k
