-- Ranks by the table's numbers and by counting, the most lists of one size, and the lists of one size in a row, as computed checks. Assumes nothing.
use Rattle.std.specs.Prelude.{Bool, cond, List, [], ◌∷◌, ℕ, suc, ◌^◌, eqb, get_or}
use Rattle.model.specs.Folds.{all_below, sum_below, map_below, same_list}
use Rattle.model.specs.TaskList.{member, size}
use Rattle.rank.specs.Binomials.{most_lists}
use Rattle.rank.specs.Ranks.{rank}

-- the table as far as five tasks need it, retyped: n from 0 to 4, k from 0 to 5. The code's own is held to Pascal's rule, entry by entry, in the proof of `Pascal::new`
abbrev five_rows : List (List ℕ)
five_rows =
    (1 ∷ 0 ∷ 0 ∷ 0 ∷ 0 ∷ 0 ∷ []) ∷ (1 ∷ 1 ∷ 0 ∷ 0 ∷ 0 ∷ 0 ∷ []) ∷ (1 ∷ 2 ∷ 1 ∷ 0 ∷ 0 ∷ 0 ∷ []) ∷ (1 ∷ 3 ∷ 3 ∷ 1 ∷ 0 ∷ 0 ∷ [])
    ∷ (1 ∷ 4 ∷ 6 ∷ 4 ∷ 1 ∷ 0 ∷ []) ∷ []

-- the sum over the tasks t of K, the i-th of them, from 0, of the number in row t at place i + 1
abbrev rank_by_rows : ℕ → ℕ → ℕ
rank_by_rows n K = sum_below n (λ t. cond (member K t) (get_or (get_or five_rows t []) (suc (size t K)) 0) 0)

-- it is the rank by counting for every list of up to five tasks
unfoldable pub check_ranks : Bool
check_ranks = all_below 6 (λ n. all_below (2 ^ n) (λ K. eqb (rank_by_rows n K) (rank n K)))

-- the lists of two of four tasks have the ranks 0, 1, .. in the order of their numbers
unfoldable pub check_order : Bool
check_order = same_list (map_below 6 (λ i. rank 4 (get_or pairs i 0))) (0 ∷ 1 ∷ 2 ∷ 3 ∷ 4 ∷ 5 ∷ [])
  where
    pairs : List ℕ
    pairs = 3 ∷ 5 ∷ 6 ∷ 9 ∷ 10 ∷ 12 ∷ []

-- the most lists of one size for 1 to 12 tasks
unfoldable pub check_most : Bool
check_most = same_list (map_below 12 (λ i. most_lists (suc i))) (1 ∷ 2 ∷ 3 ∷ 6 ∷ 10 ∷ 20 ∷ 35 ∷ 70 ∷ 126 ∷ 252 ∷ 462 ∷ 924 ∷ [])
