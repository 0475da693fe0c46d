-- The tasks of the doors so far are seen, and every task so far has a door. Both loops are left early only where every door was looked at
-- and the task in hand was not seen. Assumes nothing.
use Rattle.model.proofs.Basics.{◌≡◌, sym, ap, ◌∙◌, ℕ, ◌≤◌, arith}
use Rattle.model.specs.{any_below, lacks_door, some_lacks_door}
use Rattle.model.proofs.Tools.Tests.{any_true, any_next}
use Rattle.view.specs.Sheets.{sheet_of}
use Rattle.view.proofs.Counted.{tasks_are, doors_are}
use Rattle.feasible.proofs.Served.{seen_served, not_seen}
use Rattle.feasible.proofs.some_lacks_door.Goals as goal

-- the task in hand was seen, so it has a door
pub loop-t-preserved : goal.loop-t-preserved
loop-t-preserved c =
    let o = c.loop-t in
    let d = c.loop-doors.invariant in
    let n = tasks_are c.args.sheet.now.viewed in
    let seen = sym c.contains.ensures ∙ c.loop-doors-test.false in
    (d.0, any_next o.t (lacks_door _) o.invariant.1 (seen_served d.0 (omega (arith, c.requires)) seen), d.1)

-- the doors ended
pub returns-in_default : goal.returns-in_default
unfolding some_lacks_door
returns-in_default c =
    let S = sheet_of c.args.sheet.now in
    let d = c.loop-doors in
    let n = tasks_are c.args.sheet.now.viewed in
    let m = doors_are c.args.sheet.now.viewed in
    let all : S.doors ≤ d.doors.start = omega (arith, c.in_default.ensures.steps, d.invariant.1, m) in
    let seen = sym c.contains.ensures ∙ c.loop-doors-test.true in
    sym (any_true S.tasks (lacks_door S) c.loop-t.t (omega arith) (not_seen d.invariant.0 (omega (arith, c.requires)) all seen))

-- all tasks were tried
pub returns-after-loop-t : goal.returns-after-loop-t
unfolding some_lacks_door
returns-after-loop-t c =
    let S = sheet_of c.args.sheet.now in
    let n = tasks_are c.args.sheet.now.viewed in
    let e : c.loop-t.t ≡ S.tasks = omega arith in
    sym (ap (λ (n : ℕ). any_below n (lacks_door S)) (sym e) ∙ c.loop-t.invariant.1)
