-- A refusal touches nothing that was lent; otherwise each part is read to its place. Assumes nothing.
use Rattle.model.proofs.Basics.{◌≡◌, refl, sym, ◌∙◌, false, arith, length}
use Rattle.model.specs.{wrong_tasks, read_tests, read_plan}
use Rattle.model.proofs.Bytes.PlanBytes.{fitting}
use Rattle.plan.proofs.read.Goals.{Else-wrong_tasks}
use Rattle.plan.proofs.read.Goals as goal

-- 12 does not apply
right : (c : Else-wrong_tasks) → let a = c.args in wrong_tasks a.n (length a.doors.now) ≡ false
right c = sym c.wrong_tasks.ensures ∙ c.if-wrong_tasks.false

-- 12
pub returns-then-wrong_tasks : goal.returns-then-wrong_tasks
unfolding read_plan read_tests
returns-then-wrong_tasks c =
    rw (sym c.wrong_tasks.ensures ∙ c.if-wrong_tasks.true) (record { answer = refl; start = refl; doors = refl; cost = refl })

pub overflow_cast-tasks : goal.overflow_cast-tasks
overflow_cast-tasks c =
    record { fits = omega (arith, (fitting _ _ (right (goal.at.overflow_cast-tasks c).Else-wrong_tasks)).1) }

-- 30
pub returns-then-ill_formed : goal.returns-then-ill_formed
unfolding read_plan read_tests
returns-then-ill_formed c =
    rw (right (goal.at.returns-then-ill_formed c).Else-wrong_tasks, sym c.ill_formed.ensures ∙ c.if-ill_formed.true)
    (record { answer = refl; start = refl; doors = refl; cost = refl })

-- the plan is read
pub returns : goal.returns
unfolding read_plan read_tests
returns c =
    rw (right (goal.at.returns c).Else-wrong_tasks, sym c.ill_formed.ensures ∙ c.if-ill_formed.false)
    (record { answer = refl; start = c.start_in.ensures; doors = c.read_doors.ensures; cost = c.cost_in.ensures })
