-- The loop's sum is what the rules below i cost, and no part of the sum is above the whole. Assumes nothing.
use Rattle.model.proofs.Basics.{◌<◌, arith}
use Rattle.view.specs.Sheets.{sheet_of}
use Rattle.view.proofs.Counted.{rules_are}
use Rattle.route.proofs.Charging.{rule_fits, all_rules}
use Rattle.route.proofs.charges.Goals.{In-loop-i}
use Rattle.route.proofs.charges.Goals as goal

-- it is one of the sheet's rules
below : (c : In-loop-i) → c.loop-i.i < (sheet_of c.args.sheet.now).rules
below c = omega (arith, rules_are c.args.sheet.now.viewed)

pub rule_door-d-requires : goal.rule_door-d-requires
rule_door-d-requires c =
    omega (arith, below (goal.at.rule_door-d-requires c).In-loop-i)

pub bounds-lists-d : goal.bounds-lists-d
bounds-lists-d c =
    omega (arith, c.rule_door-d.ensures, c.requires.door _ (below (goal.at.bounds-lists-d c).In-loop-i))

pub rule_charge-sum-requires : goal.rule_charge-sum-requires
rule_charge-sum-requires c =
    let l = below (goal.at.rule_charge-sum-requires c).In-loop-i in
    (rw c.rule_door-d.ensures (c.requires.list _ l), l)

pub overflow_add-sum : goal.overflow_add-sum
overflow_add-sum c =
    let l = below (goal.at.overflow_add-sum c).In-loop-i in
    omega (arith, rule_fits c.loop-i.invariant c.rule_door-d.ensures c.rule_charge-sum.ensures l c.requires.fits)

pub returns : goal.returns
returns c =
    all_rules c.loop-i.invariant (omega (arith, rules_are c.args.sheet.now.viewed))
