-- Validating a plan: the judge of document 01, with 30 to 34 (01, Numbers a call can answer with, which every definition here is from). Assumes nothing.
use Rattle.std.specs.Prelude.{Bool, not, ◌||◌, List, [], ◌∷◌, map, ℕ, eqb, ltb, leb}
use Rattle.model.specs.Folds.{any_below, count_of}
use Rattle.model.specs.Sheet.{Sheet}
use Rattle.model.specs.Orders.{keeps_every_pair}
use Rattle.model.specs.Plans.{in_sheet, round_cost}
use Rattle.model.specs.Answer.{Answer, accepted, Test, ◌when◌, refuse_first}
use Rattle.model.specs.SheetLayout.{decode}
use Rattle.model.specs.Faults.{unless_fault}
use Rattle.model.specs.PlanLayout.{ill_formed, start_in, doors_in, cost_in}

-- 31: the start or a door is not in the sheet
unfoldable pub not_in_sheet : Sheet → ℕ → List ℕ → Bool
not_in_sheet S s ds = leb S.starts s || not (in_sheet S ds)

-- 32: a task is done twice
unfoldable pub done_twice : Sheet → List ℕ → Bool
done_twice S ts = any_below S.tasks (λ t. ltb 1 (count_of t ts))

-- 33: a receiver is before its sender
unfoldable pub breaks_pair : Sheet → List ℕ → Bool
breaks_pair S ts = not (keeps_every_pair S ts)

-- 34: the cost stated is not the cost
unfoldable pub wrong_cost : Sheet → ℕ → List ℕ → ℕ → Bool
wrong_cost S s ds c = not (eqb c (round_cost S s ds))

-- the numbers of a start, doors and a cost held against what the sheet says, in the order in which they are tested
unfoldable pub route_tests : Sheet → ℕ → List ℕ → ℕ → List Test
route_tests S s ds c =
    (31 when not_in_sheet S s ds)
    ∷ (32 when done_twice S (map S.task ds))
    ∷ (33 when breaks_pair S (map S.task ds))
    ∷ (34 when wrong_cost S s ds c)
    ∷ []

-- the numbers of a plan's bytes held against what the sheet says, in the order in which they are tested
unfoldable pub plan_tests : Sheet → List ℕ → List Test
plan_tests S q = (30 when ill_formed S.tasks q) ∷ route_tests S (start_in q) (doors_in S.tasks q) (cost_in S.tasks q)

-- the plan q for the sheet b: the sheet's own numbers, those of the plan, else the cost
unfoldable pub validate : List ℕ → List ℕ → Answer ℕ
validate b q = unless_fault b (refuse_first (plan_tests (decode b) q) (accepted (cost_in (decode b).tasks q)))
