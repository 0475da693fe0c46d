-- After i turns the plan is the empty one with the first i doors added. Assumes nothing.
use Rattle.model.proofs.Basics.{◌≡◌}
use Rattle.model.specs.{map_below, door_in, cost_in, no_doors, with_doors}
use Rattle.hand.specs.Hands.{hand_of}
use Rattle.hand.proofs.in_hand.Given as goal

abbrev pub invariant-loop-i : goal.invariant-loop-i
invariant-loop-i l = hand_of l.x ≡ with_doors (no_doors (cost_in l.n l.q)) (map_below l.i (door_in l.q))
