-- Planning: the answer, every cell and every byte afterwards (01, Working and Numbers a call can answer with). Assumes nothing.
use Rattle.std.specs.Prelude.{Bool, cond, ◌&&◌, List, [], ◌∷◌, ℕ, ◌*◌, ◌/◌, ◌%◌, ◌^◌, ltb, length, get_or}
use Rattle.std.proofs.Math.Option.{Option, none, some}
use Rattle.model.specs.Folds.{map_below}
use Rattle.model.specs.Sheet.{Sheet}
use Rattle.model.specs.Orders.{pairs_allow}
use Rattle.model.specs.Plans.{Plan, plan_cost, cheapest, cost_to_go}
use Rattle.model.specs.Bytes.{overwrite}
use Rattle.model.specs.Answer.{Answer, refused, accepted, Test, ◌when◌, refuse_first}
use Rattle.model.specs.SheetLayout.{decode}
use Rattle.model.specs.Faults.{unless_fault}
use Rattle.model.specs.PlanLayout.{plan_bytes, short_room}

-- 2 ^ N times P cells are needed (01, Working)
unfoldable pub cells_needed : Sheet → ℕ
cells_needed S = 2 ^ S.tasks * S.points

-- 20: there are fewer cells than needed (01, Numbers a call can answer with)
unfoldable pub few_cells : Sheet → ℕ → Bool
few_cells S cells = ltb cells (cells_needed S)

-- the numbers of room for so many cells and so many bytes, in the order in which they are tested (01, Numbers a call can answer with)
unfoldable pub room_tests : Sheet → ℕ → ℕ → List Test
room_tests S cells room = (20 when few_cells S cells) ∷ (21 when short_room S.tasks room) ∷ []

-- the plan, if there is one, else 17 (01, number 17). Where 17 does not apply there is (`has_plan`), so this refusal is never met
abbrev pub or_no_order : Option Plan → Answer Plan
or_no_order none = refused 17
or_no_order (some x) = accepted x

-- the plan for the sheet b, with room for so many cells and so many bytes: the sheet's own numbers, those of room, else the cheapest (01, Numbers a call can answer with)
unfoldable pub plan_for : List ℕ → ℕ → ℕ → Answer Plan
plan_for b cells room = unless_fault b (refuse_first (room_tests (decode b) cells room) (or_no_order (cheapest (decode b))))

-- cell i, which held x, afterwards. Cell K times P plus p holds the cost to go from p, if K is a list that the pairs allow (01, Working)
unfoldable pub cell_after : Sheet → ℕ → ℕ → ℕ
cell_after S i x =
    cond (ltb (i / S.points) (2 ^ S.tasks) && pairs_allow S (i / S.points)) (cost_to_go S (i / S.points) (i % S.points)) x

-- every cell afterwards (01, Working)
unfoldable pub cells_after : Sheet → List ℕ → List ℕ
cells_after S cells = map_below (length cells) (λ i. cell_after S i (get_or cells i 0))

-- what planning answers, the cost, and the cells and the buffer afterwards (01, Working and Layout of a plan)
pub record Planned : Type 0 where
  pub answer : Answer ℕ
  pub cells : List ℕ
  pub bytes : List ℕ

-- a refusal leaves both as they were; a plan is written to the front of the buffer (01, Layout of a plan)
abbrev pub carried_out : Sheet → Answer Plan → List ℕ → List ℕ → Planned
carried_out S (refused n) cells buffer = record { answer = refused n; cells = cells; bytes = buffer }
carried_out S (accepted x) cells buffer = record {
  answer = accepted (plan_cost S x);
  cells = cells_after S cells;
  bytes = overwrite (plan_bytes S.tasks x.start x.doors (plan_cost S x)) buffer;
}

-- planning, from the sheet's bytes, the cells as lent and the buffer as lent (01, Working)
unfoldable pub plan : List ℕ → List ℕ → List ℕ → Planned
plan b cells buffer = carried_out (decode b) (plan_for b (length cells) (length buffer)) cells buffer
