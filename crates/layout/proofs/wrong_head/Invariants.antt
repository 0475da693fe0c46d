-- The head is a row of numbers that fit their bytes, so it stands in the bytes exactly where each number is read there. Assumes nothing.
use Rattle.model.proofs.Tools.Searches.{PassedBelow}
use Rattle.layout.specs.Heads.{head_count}
use Rattle.layout.proofs.Heads.{same_at}
use Rattle.layout.proofs.wrong_head.Given as goal

abbrev pub invariant-loop-k : goal.invariant-loop-k
invariant-loop-k l = PassedBelow head_count (same_at l.q l.number-items) l.k
