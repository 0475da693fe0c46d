-- After i turns the plan is the empty one with the first i doors added. Assumes nothing.
use Rattle.model.proofs.Basics.{sym, ap, ap₂, ◌∙◌, arith}
use Rattle.model.specs.{map_below, no_doors, with_door}
use Rattle.model.proofs.Bytes.InHand.{with_next, all_added}
use Rattle.hand.proofs.in_hand.Goals as goal

pub loop-i-init : goal.loop-i-init
unfolding map_below
loop-i-init c =
    c.new-x.ensures ∙ ap no_doors c.cost_in.ensures

-- one door more is added
pub loop-i-preserved : goal.loop-i-preserved
loop-i-preserved c =
    c.with_door-x.ensures ∙ ap₂ with_door c.loop-i.invariant c.door_in.ensures ∙ sym (with_next _ _ _)

pub returns : goal.returns
returns c =
    all_added _ _ _ _ (omega arith) c.loop-i.invariant
