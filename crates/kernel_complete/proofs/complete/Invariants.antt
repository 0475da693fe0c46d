-- The plan with the doors left to add is the cheapest completion, and the list left can be completed; it has a lesser number with each door. Assumes nothing.
use Rattle.model.specs.Sheet.{Sheet}
use Rattle.hand.specs.Hands.{hand_of}
use Rattle.kernel_complete.specs.Completed.{Completable}
use Rattle.kernel_complete.proofs.Completing.{Towards}
use Rattle.kernel_complete.proofs.complete.Given as goal

abbrev pub invariant-loop-left : goal.invariant-loop-left
invariant-loop-left l = (S : Sheet) → Completable S l.x l.columns l.k l.p l.cells → Towards S l.x l.columns l.k l.p l.cells (hand_of l.plan) l.left l.at

abbrev pub decreases-loop-left : goal.decreases-loop-left
decreases-loop-left l = l.left
