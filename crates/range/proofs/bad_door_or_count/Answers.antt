-- The door and the least count are held to their limits, the second only where the first is in range. Assumes nothing.
use Rattle.model.proofs.Basics.{refl, ap, ◌∙◌, not, le-leb, lt-leb}
use Rattle.model.specs.{kind1, layout_of}
use Rattle.view.proofs.Counted.{doors_are}
use Rattle.model.proofs.Tools.Chains.{contains_is}
use Rattle.range.specs.Rules.{bad_door_or_count}
use Rattle.range.proofs.bad_door_or_count.Goals as goal

-- the door is out of range
pub returns-then-sheet-rule_door : goal.returns-then-sheet-rule_door
unfolding bad_door_or_count
returns-then-sheet-rule_door c =
    rw (← doors_are c.args.sheet.now.viewed, ← c.rule_door.ensures, le-leb _ _ c.if-sheet-rule_door.true) refl

-- it is not: the least count decides
pub returns-else-sheet-rule_door : goal.returns-else-sheet-rule_door
unfolding bad_door_or_count layout_of kind1
returns-else-sheet-rule_door c =
    let range = c.new.ensures in
    let b = c.contains.ensures.value ∙ rw (range.exhausted, range.start, range.end, ← c.least_count.ensures) (contains_is 1 12 _) in
    rw (← doors_are c.args.sheet.now.viewed, ← c.rule_door.ensures, lt-leb _ _ c.if-sheet-rule_door.false) (ap not b)
