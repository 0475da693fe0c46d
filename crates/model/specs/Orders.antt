-- Orders of a list of tasks, and the pairs that they keep (01, Cost of a round; 000, (2.7), (4.1) and (4.2)). Assumes nothing.
use Rattle.std.specs.Prelude.{Bool, not, ◌&&◌, ◌||◌, List, ℕ, eqb, ltb}
use Rattle.model.specs.Folds.{all_below, lists_below, all_in, keep_if, is_empty, count_of, index_of}
use Rattle.model.specs.TaskList.{bit, member, full, size}
use Rattle.model.specs.Sheet.{Sheet}

-- an order of K, a list of some of n tasks: each task of K once, and nothing else (01, Cost of a round)
unfoldable pub is_order : ℕ → ℕ → List ℕ → Bool
is_order n K ts = all_in (λ t. ltb t n) ts && all_below n (λ t. eqb (count_of t ts) (bit K t))

-- the order keeps pair i: the sender stands before the receiver (01, Cost of a round; 000, (2.7)). A task that is not in it counts as behind its end
unfoldable pub keeps_pair : Sheet → List ℕ → ℕ → Bool
keeps_pair S ts i = ltb (index_of (S.sender i) ts) (index_of (S.receiver i) ts)

-- it keeps every pair (01, Cost of a round; 000, (2.7))
unfoldable pub keeps_every_pair : Sheet → List ℕ → Bool
keeps_every_pair S ts = all_below S.pairs (keeps_pair S ts)

-- pair i lies within K: both its tasks are in K (000, the set Σ[K] of (4.1))
unfoldable pub pair_within : Sheet → ℕ → ℕ → Bool
pair_within S K i = member K (S.sender i) && member K (S.receiver i)

-- the order keeps the pairs within K (01, Cost of a round)
unfoldable pub keeps_pairs_within : Sheet → ℕ → List ℕ → Bool
keeps_pairs_within S K ts = all_below S.pairs (λ i. not (pair_within S K i) || keeps_pair S ts i)

-- an order of the full list that keeps every pair (01, Cost of a round): a route admissible by precedence (000, (2.7))
unfoldable pub is_admissible : Sheet → List ℕ → Bool
is_admissible S ts = is_order S.tasks (full S.tasks) ts && keeps_every_pair S ts

-- an order of K that keeps the pairs within K (01, Cost of a round: the cost to finish)
unfoldable pub is_order_within : Sheet → ℕ → List ℕ → Bool
is_order_within S K ts = is_order S.tasks K ts && keeps_pairs_within S K ts

-- all orders of the full list that keep every pair, ranked by the first task in which two differ (000, the set A of (2.7))
unfoldable pub admissible_orders : Sheet → List (List ℕ)
admissible_orders S = keep_if (is_admissible S) (lists_below S.tasks S.tasks)

-- all orders of K that keep the pairs within K, in the same rank (01, Cost of a round: the cost to finish)
unfoldable pub orders_within : Sheet → ℕ → List (List ℕ)
orders_within S K = keep_if (is_order_within S K) (lists_below S.tasks (size S.tasks K))

-- no order of the tasks keeps every pair (01, number 17)
unfoldable pub no_order : Sheet → Bool
no_order S = is_empty (admissible_orders S)

-- an essential list, of K below 2 ^ N: not empty and, for each pair, with the receiver whenever it has the sender (01, Cost of a round; 000, (4.2))
unfoldable pub essential : Sheet → ℕ → Bool
essential S K = not (eqb K 0) && all_below S.pairs (λ i. not (member K (S.sender i)) || member K (S.receiver i))

-- the lists that the pairs allow, of K below 2 ^ N: the essential ones and the empty one (01, Cost of a round)
unfoldable pub pairs_allow : Sheet → ℕ → Bool
pairs_allow S K = eqb K 0 || essential S K
