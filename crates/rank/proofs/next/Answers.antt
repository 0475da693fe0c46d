-- The lowest run is carried, and what it has besides its highest task goes to the bottom. Assumes nothing.
use Rattle.model.proofs.Basics.{arith}
use Rattle.model.specs.{mask_bits}
use Rattle.rank.proofs.Following.{NextFound, next_found}
use Rattle.rank.proofs.next.Goals.{Start}
use Rattle.rank.proofs.next.Goals as goal

found : (c : Start) → NextFound mask_bits c.args.k
found c = next_found mask_bits _ c.requires.0 (omega arith)

pub overflow_sub-result : goal.overflow_sub-result
overflow_sub-result c =
    omega (arith, (found (goal.at.overflow_sub-result c).Start).high_above)

pub overflow_sub-result-2 : goal.overflow_sub-result-2
overflow_sub-result-2 c =
    omega (arith, (found (goal.at.overflow_sub-result-2 c).Start).high_above)

pub returns : goal.returns
returns c =
    (found (goal.at.returns c).Start).next
