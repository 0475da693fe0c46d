-- Planning leaves a plan, whose lines are laid as the bytes hold it, or a refusal, whose line is laid. Assumes nothing.
use Rattle.model.proofs.Basics.{◌≡◌, sym, ap, ◌∙◌, true, are_bytes}
use Rattle.model.specs.{map_below, refused, line_at, plan_start_at, plan_doors_at, plan_cost_at, plan_length, plan, print}
use Rattle.model.proofs.Tools.Elements.{are_bytes_lem}
use Rattle.refusal.specs.Answers.{answered}
use Rattle.lines.proofs.Laying.{laid_as}
use Rattle.text.proofs.Answered.{no_plan, refusal_printed, plan_held, plan_printed}
use Rattle.text.proofs.answer_lines.Goals.{After-plan}
use Rattle.text.proofs.answer_lines.Goals as goal

bytes : (c : After-plan) → are_bytes c.args.s.now ≡ true
bytes c = are_bytes_lem c.args.s.now c.type_inv.s

-- what planning left, where the buffer for the plan was empty
left : (c : After-plan) →
    let a = c.args in
    let p = plan a.s.now a.cells.now no_plan in
    (answered c.plan.result ≡ p.answer) × (c.plan.new.cells ≡ p.cells) × (c.plan.new.buf ≡ p.bytes)
unfolding map_below plan_length plan_cost_at plan_doors_at plan_start_at line_at
left c = let w = c.plan.ensures in (w.answer, w.cells, w.bytes)

pub plan_lines-requires : goal.plan_lines-requires
plan_lines-requires c =
    let a = c.args in
    let p = (goal.at.plan_lines-requires c).After-plan in
    let e = sym (ap answered c.in-Ok.is) ∙ (left p).0 in
    (plan_held a.s.now a.cells.now (bytes p) e (left p).2, c.requires)

-- the lines of the plan
pub returns-in-Ok : goal.returns-in-Ok
unfolding print
returns-in-Ok c =
    let a = c.args in
    let p = (goal.at.returns-in-Ok c).After-plan in
    let e = sym (ap answered c.in-Ok.is) ∙ (left p).0 in
    record { text = laid_as (plan_printed a.s.now a.cells.now (bytes p) e (left p).2) c.plan_lines.ensures; cells = (left p).1 }

-- the line of the refusal
pub returns-in-Err : goal.returns-in-Err
unfolding print
returns-in-Err c =
    let a = c.args in
    let p = (goal.at.returns-in-Err c).After-plan in
    let e = ap refused c.from.ensures ∙ sym (ap answered c.in-Err.is) ∙ (left p).0 in
    record { text = laid_as (refusal_printed a.s.now a.cells.now e) c.refusal_line.ensures; cells = (left p).1 }
