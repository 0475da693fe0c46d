-- Pricing a round without the plan: the least cost and its first start, in two lent layers of cells (02, Req 01; 000, Note 4.1). Assumes nothing.
-- The answer is made of the sheet's bytes and of how many cells each layer has, so it cannot hang on what they held before.
use Rattle.std.specs.Prelude.{◌≡◌, Bool, cond, ◌||◌, List, [], ◌∷◌, ℕ, ◌%◌, eqb, ltb, length, take}
use Rattle.model.specs.Sheet.{Sheet}
use Rattle.model.specs.Plans.{Plan, plan_cost, cheapest}
use Rattle.model.specs.Answer.{Answer, refused, accepted, Test, ◌when◌, refuse_first}
use Rattle.model.specs.SheetLayout.{decode}
use Rattle.model.specs.Faults.{unless_fault}
use Rattle.model.specs.Planning.{or_no_order}
use Rattle.kernel_layers.specs.Layers.{layer_cells, LayerFilled}

-- ---- room

-- 22: either layer has fewer cells than needed, B times P
unfoldable pub short_layer : Sheet → ℕ → ℕ → Bool
short_layer S even odd = ltb even (layer_cells S) || ltb odd (layer_cells S)

-- the number of room for layers of so many cells
unfoldable pub layer_tests : Sheet → ℕ → ℕ → List Test
layer_tests S even odd = (22 when short_layer S even odd) ∷ []

-- the sheet's own numbers, then 22, else the answer a
unfoldable pub unless_short : {A : Type 0} → List ℕ → ℕ → ℕ → Answer A → Answer A
unless_short b even odd a = unless_fault b (refuse_first (layer_tests (decode b) even odd) a)

-- ---- the answer

-- the least cost, and the first start that has it
pub record Price : Type 0 where
  pub cost : ℕ
  pub start : ℕ

-- those of a plan
unfoldable pub price_of : Sheet → Plan → Price
price_of S x = record { cost = plan_cost S x; start = x.start }

-- the price of the plan that was answered
abbrev pub price_in : Sheet → Answer Plan → Answer Price
price_in S (refused n) = refused n
price_in S (accepted x) = accepted (price_of S x)

-- pricing the sheet b with layers of so many cells: cost and start of the planner's cheapest plan
unfoldable pub price : List ℕ → ℕ → ℕ → Answer Price
price b even odd = unless_short b even odd (price_in (decode b) (or_no_order (cheapest (decode b))))

-- ---- the layers afterwards

-- the layer of a parity, 0 for even and 1 for odd, by what was answered: a refusal leaves it as it was
abbrev pub LayerAfter : Answer Price → Sheet → ℕ → List ℕ → List ℕ → Type 0
LayerAfter (refused n) S parity before after = after ≡ before
LayerAfter (accepted x) S parity before after = LayerFilled S parity before after

-- both layers, as lent and afterwards
abbrev pub LayersAfter : List ℕ → List ℕ → List ℕ → List ℕ → List ℕ → Type 0
LayersAfter b even odd even' odd' =
    LayerAfter (price b (length even) (length odd)) (decode b) 0 even even' × LayerAfter (price b (length even) (length odd)) (decode b) 1 odd odd'

-- ---- the row of the full list

-- the layer of N's parity begins with it
unfoldable pub layer_of : Sheet → List ℕ → List ℕ → List ℕ
layer_of S even odd = cond (eqb (S.tasks % 2) 0) even odd

abbrev pub row_in : Answer Price → Sheet → List ℕ → List ℕ → List ℕ
row_in (refused n) S even odd = []
row_in (accepted x) S even odd = take S.points (layer_of S even odd)

-- its P cells, in layers that hold whatever they hold, and none where pricing with these layers refuses
unfoldable pub price_row : List ℕ → List ℕ → List ℕ → List ℕ
price_row b even odd = row_in (price b (length even) (length odd)) (decode b) even odd

-- where it is: in the even layer, 0, or the odd one, 1; and of how many cells it is
pub record RowPlace : Type 0 where
  pub layer : ℕ
  pub cells : ℕ

unfoldable pub row_place : List ℕ → ℕ → ℕ → Answer RowPlace
row_place b even odd = unless_short b even odd (accepted (record { layer = (decode b).tasks % 2; cells = (decode b).points }))

-- ---- the places of the C interface

abbrev pub price_cost : Price → ℕ
price_cost x = x.cost

abbrev pub price_start : Price → ℕ
price_start x = x.start

abbrev pub row_layer : RowPlace → ℕ
row_layer x = x.layer

abbrev pub row_cells : RowPlace → ℕ
row_cells x = x.cells
