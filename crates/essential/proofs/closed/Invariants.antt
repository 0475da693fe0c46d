-- No task so far that the list lacks has a sender in it. Assumes nothing.
use Rattle.model.proofs.Basics.{not, ◌||◌, get_or, length}
use Rattle.model.specs.{member, meets, mask_bits}
use Rattle.model.proofs.Tools.Searches.{PassedBelow}
use Rattle.essential.proofs.closed.Given as goal

abbrev pub invariant-loop-t : goal.invariant-loop-t
invariant-loop-t l = PassedBelow (length l.senders) (λ j. member l.k j || not (meets mask_bits (get_or l.senders j 0) l.k)) l.t
