-- The code's test of the count is the definition's: a full plan stays, and any other gets the door at the place that its count names. Assumes nothing.
use Rattle.model.proofs.Basics.{◌≡◌, ℕ, ◌+◌, ◌<◌, arith, set, add-one, lt-ltb, le-ltb}
use Rattle.model.specs.{max_plan_doors, with_door, PlanInHand.PlanInHand}
use Rattle.hand.proofs.Plan.with_door.Goals as goal

-- a door at that place
placed : (x : PlanInHand) (d : ℕ) {at : ℕ} → at ≡ x.count → x.count < max_plan_doors → record { doors = set x.doors at d; count = x.count + 1; cost = x.cost } ≡ with_door x d
unfolding with_door
placed x d e l = rw (e, add-one, lt-ltb x.count max_plan_doors l)

-- it has room
pub returns-then-at-lt-MAX_DOORS : goal.returns-then-at-lt-MAX_DOORS
returns-then-at-lt-MAX_DOORS c =
    placed _ _ (omega arith) (omega (arith, c.if-at-lt-MAX_DOORS.true))

-- the plan is full
pub returns-else-at-lt-MAX_DOORS : goal.returns-else-at-lt-MAX_DOORS
unfolding with_door
returns-else-at-lt-MAX_DOORS c =
    rw (le-ltb c.args.self.count max_plan_doors (omega (arith, c.if-at-lt-MAX_DOORS.false)))
