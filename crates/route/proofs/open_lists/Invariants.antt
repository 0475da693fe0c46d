-- The array has the open lists of the doors from i on, and the mask the one that is open there. Assumes nothing.
use Rattle.route.proofs.Listing.{ListedFrom}
use Rattle.route.proofs.open_lists.Given as goal

abbrev pub invariant-loop-i : goal.invariant-loop-i
invariant-loop-i l = ListedFrom l.doors l.tasks l.lists l.later l.i
