-- Each test that was passed is known where the next is made, so that the first that applies gives the definition's answer. Assumes nothing.
use Rattle.model.proofs.Basics.{◌≡◌, sym, ◌∙◌, false, map, arith, length, take, length-take-le, rules}
use Rattle.model.specs.{max_plan_doors, not_in_sheet, done_twice, breaks_pair}
use Rattle.model.proofs.Calls.Interface.{reads_sheet}
use Rattle.view.specs.Sheets.{sheet_of}
use Rattle.checks.proofs.Placing.{front_mapped}
use Rattle.validate.proofs.Judging.{Routed, ranges, few_tasks, few_doors, not_in_sheet_lem, doors_in_lem, start_in_lem, tasks_in, tasks_small}
use Rattle.validate.proofs.Judging.{done_twice_lem, wrong_order, solves, wrong_cost_lem, right_cost}
use Rattle.validate.proofs.validate_route.Goals.{Start, Else-not_in_sheet, After-tasks_of-array, Else-done_twice, Else-breaks_pair}
use Rattle.validate.proofs.validate_route.Goals as goal

-- ---- the sheet and the route

routed : (c : Start) → Routed c.args.read.now.sheet.bytes.now c.args.start c.args.doors.now c.args.stated
routed c = record { reads = reads_sheet _ c.args.read.now.reads; size = c.requires }

-- the tasks of the doors, in the front of the array
tasks_are : (c : After-tasks_of-array)
    → take (length c.args.doors.now) c.tasks_of-array.result ≡ map (sheet_of c.args.read.now.sheet).task c.args.doors.now
tasks_are c = rw c.tasks_of-array.ensures (front_mapped _ c.args.doors.now _)

-- ---- the tests that were passed

known : (c : Else-not_in_sheet) → not_in_sheet (sheet_of c.args.read.now.sheet) c.args.start c.args.doors.now ≡ false
known c = sym c.not_in_sheet.ensures ∙ c.if-not_in_sheet.false

once : (c : Else-done_twice) → done_twice (sheet_of c.args.read.now.sheet) (take (length c.args.doors.now) c.tasks_of-array.result) ≡ false
once c = sym c.done_twice.ensures ∙ c.if-done_twice.false

ordered : (c : Else-breaks_pair) → breaks_pair (sheet_of c.args.read.now.sheet) (take (length c.args.doors.now) c.tasks_of-array.result) ≡ false
ordered c = sym c.breaks_pair.ensures ∙ c.if-breaks_pair.false

-- ---- the answers

-- 31 applies
pub returns-then-not_in_sheet : goal.returns-then-not_in_sheet
returns-then-not_in_sheet c =
    not_in_sheet_lem (routed (goal.at.returns-then-not_in_sheet c).Start) (sym c.not_in_sheet.ensures ∙ c.if-not_in_sheet.true)

pub tasks_of-array-requires : goal.tasks_of-array-requires
tasks_of-array-requires c =
    let p = goal.at.tasks_of-array-requires c in
    (doors_in_lem (routed p.Start) (known p.Else-not_in_sheet), few_doors (routed p.Start))

pub slice_bounds-array-end : goal.slice_bounds-array-end
slice_bounds-array-end c =
    let twelve : length c.tasks_of-array.result ≡ max_plan_doors = search rules in
    omega (arith, few_doors (routed (goal.at.slice_bounds-array-end c).Start))

pub slice_bounds-tasks-end : goal.slice_bounds-tasks-end
slice_bounds-tasks-end c =
    let twelve : length c.tasks_of-array.result ≡ max_plan_doors = search rules in
    sym (length-take-le _ _ (omega (arith, few_doors (routed (goal.at.slice_bounds-tasks-end c).Start))))

pub done_twice-requires : goal.done_twice-requires
done_twice-requires c =
    let p = goal.at.done_twice-requires c in
    let R = routed p.Start in
    (tasks_in R (known p.Else-not_in_sheet) (tasks_are p.After-tasks_of-array), omega (arith, few_tasks R))

-- 32 applies
pub returns-then-done_twice : goal.returns-then-done_twice
returns-then-done_twice c =
    let p = goal.at.returns-then-done_twice c in
    done_twice_lem (routed p.Start) (known p.Else-not_in_sheet) (tasks_are p.After-tasks_of-array) (sym c.done_twice.ensures ∙ c.if-done_twice.true)

pub breaks_pair-requires : goal.breaks_pair-requires
breaks_pair-requires c =
    let p = goal.at.breaks_pair-requires c in
    let R = routed p.Start in
    (ranges R, few_tasks R, tasks_small R (known p.Else-not_in_sheet) (tasks_are p.After-tasks_of-array))

-- 33 applies
pub returns-then-breaks_pair : goal.returns-then-breaks_pair
returns-then-breaks_pair c =
    let p = goal.at.returns-then-breaks_pair c in
    wrong_order (routed p.Start) (known p.Else-not_in_sheet) (tasks_are p.After-tasks_of-array) (once p.Else-done_twice)
    (sym c.breaks_pair.ensures ∙ c.if-breaks_pair.true)

pub start_point-from-requires : goal.start_point-from-requires
start_point-from-requires c =
    let p = goal.at.start_point-from-requires c in
    omega (arith, start_in_lem (routed p.Start) (known p.Else-not_in_sheet))

pub cost-cost-requires : goal.cost-cost-requires
cost-cost-requires c =
    let p = goal.at.cost-cost-requires c in
    solves (routed p.Start) (known p.Else-not_in_sheet) (tasks_are p.After-tasks_of-array) (once p.Else-done_twice) (ordered p.Else-breaks_pair)
    c.start_point-from.ensures c.args.read.now.fit

-- 34 applies
pub returns-then-stated-cost : goal.returns-then-stated-cost
returns-then-stated-cost c =
    let p = goal.at.returns-then-stated-cost c in
    wrong_cost_lem (routed p.Start) (known p.Else-not_in_sheet) (tasks_are p.After-tasks_of-array) (once p.Else-done_twice)
    (ordered p.Else-breaks_pair) c.start_point-from.ensures c.cost-cost.ensures (λ q. omega arith)

-- no test applies
pub returns : goal.returns
returns c =
    let p = goal.at.returns c in
    right_cost (routed p.Start) (known p.Else-not_in_sheet) (tasks_are p.After-tasks_of-array) (once p.Else-done_twice)
    (ordered p.Else-breaks_pair) c.start_point-from.ensures c.cost-cost.ensures (omega arith)
