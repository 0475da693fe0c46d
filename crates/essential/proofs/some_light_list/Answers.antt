-- The lists one by one: the sum is the load of the list before, and none so far is essential with a load below zero. Assumes nothing.
use Rattle.model.proofs.Basics.{◌≡◌, ap, ◌∙◌, ◌^◌, ◌<◌, arith, pow_pos, length, take}
use Rattle.model.specs.{map_below, senders_of, lists_of}
use Rattle.model.proofs.Tools.Folds.{length_map_below}
use Rattle.model.proofs.TaskLists.Masks.{lists_of_lem}
use Rattle.view.specs.Sheets.{sheet_of}
use Rattle.view.proofs.Counted.{tasks_are}
use Rattle.feasible.proofs.Waiting.{slice_size, slice_is}
use Rattle.essential.proofs.Looking.{empty_first, in_array, total_fits, heavy, light, not_essential, all_looked_at}
use Rattle.essential.proofs.some_light_list.Goals.{After-senders-senders, After-end_load-load, else-load-lt0-via-then-load-lt0+else-closed, else-load-lt0-via-else-load-lt0}
use Rattle.essential.proofs.some_light_list.Goals as goal

-- what was found before the loop
lists_are : (c : After-end_load-load) → c.lists-lists.result ≡ 2 ^ (sheet_of c.args.sheet.now).tasks
lists_are c =
    let p = c.requires in
    c.lists-lists.ensures ∙ ap lists_of (tasks_are c.args.sheet.now.viewed) ∙ lists_of_lem _ (omega (arith, p.0))

end_small : (c : After-end_load-load) → (sheet_of c.args.sheet.now).end_load < 2 ^ 16
end_small c = rw (← c.end_load-load.ensures) (omega arith)

-- what the sheet's tasks wait for
slice : (c : After-senders-senders) →
    let S = sheet_of c.args.sheet.now in
    take c.args.sheet.now.view.tasks c.senders-senders.result ≡ map_below S.tasks (senders_of S)
slice c = slice_is _ c.senders-senders.ensures (tasks_are c.args.sheet.now.viewed) c.requires.0

-- as many as the sheet has tasks
size : (c : After-senders-senders) → length (take c.args.sheet.now.view.tasks c.senders-senders.result) ≡ (sheet_of c.args.sheet.now).tasks
size c = ap length (slice c) ∙ length_map_below _ _

pub slice_bounds-senders-end-2 : goal.slice_bounds-senders-end-2
slice_bounds-senders-end-2 c = slice_size _ c.senders-senders.ensures (tasks_are c.args.sheet.now.viewed) c.requires.0

pub loop-k-init : goal.loop-k-init
loop-k-init c =
    empty_first _ c.end_load-load.ensures (omega arith) (rw (lists_are (goal.at.loop-k-init c).After-end_load-load) (pow_pos (sheet_of c.args.sheet.now).tasks))

pub bounds-steps-k : goal.bounds-steps-k
bounds-steps-k c =
    in_array c.loop-k.invariant c.steps-steps.ensures c.requires.0 (end_small (goal.at.bounds-steps-k c).After-end_load-load) (lists_are (goal.at.bounds-steps-k c).After-end_load-load) c.loop-k-test.true (omega arith)

pub overflow_add-load : goal.overflow_add-load
overflow_add-load c =
    total_fits c.loop-k.invariant c.steps-steps.ensures c.requires.0 (end_small (goal.at.overflow_add-load c).After-end_load-load) (lists_are (goal.at.overflow_add-load c).After-end_load-load) c.loop-k-test.true
    (omega arith)

-- a list is essential and too light
pub returns-then-closed : goal.returns-then-closed
returns-then-closed c =
    let p = c.requires in
    light c.loop-k.invariant c.steps-steps.ensures p.0 (end_small (goal.at.returns-then-closed c).After-end_load-load) (lists_are (goal.at.returns-then-closed c).After-end_load-load) c.loop-k-test.true (omega arith)
    p.1 c.if-load-lt0.true c.closed.ensures (slice (goal.at.returns-then-closed c).After-senders-senders)
    (size (goal.at.returns-then-closed c).After-senders-senders) (omega arith) c.if-closed.true

-- one list more is not essential, or its load is not below zero
pub loop-k-preserved : goal.loop-k-preserved
loop-k-preserved c =
    let p = c.requires in
    let h = c.loop-k.invariant in
    let n = lists_are (goal.at.loop-k-preserved c).After-end_load-load in
    let few = p.0 in
    let st = c.steps-steps.ensures in
    elim c.else-load-lt0.branch [
      | else-load-lt0-via-then-load-lt0+else-closed w ↦
          not_essential h st few (end_small (goal.at.loop-k-preserved c).After-end_load-load) n c.loop-k-test.true (omega arith) p.1
          w.if-load-lt0.true w.closed.ensures (slice (goal.at.loop-k-preserved c).After-senders-senders)
          (size (goal.at.loop-k-preserved c).After-senders-senders) (omega arith) w.if-closed.false
      | else-load-lt0-via-else-load-lt0 w ↦
          heavy h st few (end_small (goal.at.loop-k-preserved c).After-end_load-load) n c.loop-k-test.true (omega arith) w.if-load-lt0.false
    ]

-- none is
pub returns : goal.returns
returns c =
    all_looked_at c.loop-k.invariant (lists_are (goal.at.returns c).After-end_load-load) c.loop-k-test.false
