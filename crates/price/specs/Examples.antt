-- Sheet A priced, as a computed check (02, Req 01; 01, Sheet A and its neighbours). Assumes nothing.
use Rattle.std.specs.Prelude.{Bool, false, ◌&&◌, List, [], ◌∷◌, ◌++◌, ℕ, eqb}
use Rattle.model.specs.Folds.{same_list, map_below}
use Rattle.model.specs.Plans.{cost_to_go}
use Rattle.model.specs.Answer.{Answer, refused, accepted, status}
use Rattle.model.specs.SheetLayout.{decode}
use Rattle.model.specs.Examples.{sheet_a, head_of, like_a, pair_bytes, aboard}
use Rattle.kernel_layers.specs.Layers.{layer_cells}
use Rattle.price.specs.Pricing.{Price, price, price_row, RowPlace, row_place}

-- it answers that cost and that start
abbrev is_price : ℕ → ℕ → Answer Price → Bool
is_price c s (refused n) = false
is_price c s (accepted x) = eqb x.cost c && eqb x.start s

-- it answers that layer and so many cells
abbrev is_place : ℕ → ℕ → Answer RowPlace → Bool
is_place l p (refused n) = false
is_place l p (accepted x) = eqb x.layer l && eqb x.cells p

-- one task and two points: E 10, w +5, a door at point 1 with work 4, a start at point 0, end costs 7 and 9, distances 0 3 and 2 0
abbrev one_task : List ℕ
one_task = head_of 10 1 1 1 0 0 2
    ++ (5 ∷ 0
    ∷ 0 ∷ 0 ∷ 1 ∷ 0 ∷ 1 ∷ 0 ∷ 4 ∷ 0 ∷ 0 ∷ 0
    ∷ 0 ∷ 0
    ∷ 7 ∷ 0 ∷ 0 ∷ 0 ∷ 9 ∷ 0 ∷ 0 ∷ 0
    ∷ 0 ∷ 0 ∷ 3 ∷ 0
    ∷ 2 ∷ 0 ∷ 0 ∷ 0
    ∷ [])

-- six cells a layer: two lists of one size at most, three points
unfoldable pub check_priced : Bool
check_priced =
    eqb (layer_cells (decode sheet_a)) 6
    -- 92 from start 0, in layers that are just long enough or longer
    && is_price 92 0 (price sheet_a 6 6)
    && is_price 92 0 (price sheet_a 9 7)
    -- 22 where one is too short, or both
    && eqb (status (price sheet_a 5 6)) 22
    && eqb (status (price sheet_a 6 5)) 22
    && eqb (status (price sheet_a 0 0)) 22
    -- the sheet's own numbers first: a pair of a task with itself is 17, no bytes are 10
    && eqb (status (price (like_a 10 1 (pair_bytes 0 0) 0 []) 0 0)) 17
    && eqb (status (price [] 0 0)) 10
    -- A with end load 2 gets 16, and with the pair (1, 0) its price (02, Req 03)
    && eqb (status (price (aboard 0 []) 0 0)) 16
    && is_price 70 0 (price (aboard 1 (pair_bytes 1 0)) 6 6)
    -- a pair changes the price: 126
    && is_price 126 0 (price (like_a 10 1 (pair_bytes 1 0) 0 []) 6 6)
    -- the even layer begins with the costs to go of the whole round, 92, 68, 90, and the row is its first three cells
    && same_list (map_below 3 (cost_to_go (decode sheet_a) 3)) (92 ∷ 68 ∷ 90 ∷ [])
    && same_list (price_row sheet_a (92 ∷ 68 ∷ 90 ∷ 1 ∷ 2 ∷ 3 ∷ 4 ∷ []) (5 ∷ 6 ∷ 7 ∷ 8 ∷ 9 ∷ 10 ∷ [])) (92 ∷ 68 ∷ 90 ∷ [])
    && same_list (price_row sheet_a (92 ∷ 68 ∷ 90 ∷ 1 ∷ 2 ∷ []) (5 ∷ 6 ∷ 7 ∷ 8 ∷ 9 ∷ 10 ∷ [])) []
    && is_place 0 3 (row_place sheet_a 6 6)
    -- with one task the row is in the odd layer: 3 times 15 for the way, 4 and 9 from point 0, and 4 and 9 from point 1
    && is_price 58 0 (price one_task 2 2)
    && same_list (map_below 2 (cost_to_go (decode one_task) 1)) (58 ∷ 13 ∷ [])
    && same_list (price_row one_task (1 ∷ 2 ∷ 3 ∷ []) (58 ∷ 13 ∷ 4 ∷ [])) (58 ∷ 13 ∷ [])
    && is_place 1 2 (row_place one_task 2 2)
