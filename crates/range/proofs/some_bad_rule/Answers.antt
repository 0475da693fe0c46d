-- A search through the rules: none so far has its door or least count out of range, and what they watch is joined. Assumes nothing.
use Rattle.model.proofs.Basics.{ap, ◌∙◌, ℕ, min, arith}
use Rattle.model.specs.{lists_of}
use Rattle.model.proofs.TaskLists.Masks.{lists_of_lem}
use Rattle.view.proofs.Counted.{tasks_are, rules_are}
use Rattle.range.specs.Rules.{watched_bits}
use Rattle.range.proofs.Rules.{one_more, all_looked_at, one_bad}
use Rattle.range.proofs.some_bad_rule.Goals as goal

pub bad_door_or_count-requires : goal.bad_door_or_count-requires
bad_door_or_count-requires c =
    rw (← rules_are c.args.sheet.now.viewed) c.loop-i-test.true

-- a rule's door or least count is out of range
pub returns-then-bad_door_or_count : goal.returns-then-bad_door_or_count
returns-then-bad_door_or_count c =
    one_bad _ _ c.loop-i-test.true (rules_are c.args.sheet.now.viewed) c.bad_door_or_count.ensures c.if-bad_door_or_count.true

pub watched-watched-requires : goal.watched-watched-requires
watched-watched-requires c =
    rw (← rules_are c.args.sheet.now.viewed) c.loop-i-test.true

-- one rule more, and what it watches
pub loop-i-preserved : goal.loop-i-preserved
loop-i-preserved c =
    one_more _ _ c.loop-i.invariant c.loop-i-test.true c.bad_door_or_count.ensures c.if-bad_door_or_count.false c.watched-watched.ensures (omega arith)

-- what they watch together decides
pub returns : goal.returns
returns c =
    let v = c.args.sheet.now.viewed in
    let few = c.min.ensures ∙ ap (λ (n : ℕ). min n watched_bits) (tasks_are v) in
    all_looked_at _ _ c.loop-i.invariant c.loop-i-test.false (rules_are v) (c.lists.ensures ∙ ap lists_of few ∙ lists_of_lem _ (omega arith))
