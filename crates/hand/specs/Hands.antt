-- The plan in hand, as the definitions have it (01, Working). Assumes nothing.
use Rattle.model.specs.PlanInHand.{PlanInHand}
use Rattle.hand.specs.declared.Plan.{Plan}

-- doors, count and cost
abbrev pub hand_of : Plan → PlanInHand
hand_of x = record { doors = x.doors; count = x.count; cost = x.cost }
