-- The rank of a list among those of its size (02, Req 01): by counting, which is what it means, and by binomials. Assumes nothing.
use Rattle.std.specs.Prelude.{◌≡◌, Bool, cond, ◌&&◌, List, [], ℕ, suc, ◌+◌, ◌*◌, ◌%◌, ◌^◌, ◌≤◌, ◌<◌, eqb, ltb, leb, get_or}
use Rattle.model.specs.Folds.{sum_below, count_below, map_below}
use Rattle.model.specs.TaskList.{member, without, size}
use Rattle.rank.specs.Binomials.{binomial, most_lists}

-- L has as many of the n tasks as K
unfoldable pub same_size : ℕ → ℕ → ℕ → Bool
same_size n K L = eqb (size n L) (size n K)

-- the rank of K: the number of lists of its size, among those of n tasks, with a smaller number
unfoldable pub rank : ℕ → ℕ → ℕ
rank n K = count_below (2 ^ n) (λ L. same_size n K L && ltb L K)

-- what task t adds to the rank, where it is in K: t over i + 1, if it is the i-th of K's tasks, from 0, in increasing order; then i of them are below t
unfoldable pub rank_part : ℕ → ℕ → ℕ
rank_part K t = cond (member K t) (binomial t (suc (size t K))) 0

-- the rank by binomials: the sum over the tasks of K (`rank_by_binomials`)
unfoldable pub binomial_rank : ℕ → ℕ → ℕ
binomial_rank n K = sum_below n (rank_part K)

-- ---- in the code

-- the most tasks that its table of binomials serves: n and k from 0 to 16
abbrev pub max_ranked : ℕ
max_ranked = 16

-- the table has the binomials: n over k in row n at place k
abbrev pub Tabled : List (List ℕ) → Type 0
Tabled table = (n k : ℕ) → n ≤ max_ranked → k ≤ max_ranked → get_or (get_or table n []) k 0 ≡ binomial n k

-- the rank of a mask: that of the list of its first 16 tasks
unfoldable pub rank_of : ℕ → ℕ
rank_of K = rank max_ranked (K % 2 ^ max_ranked)

-- the most lists of one size of n tasks, or 0 where n is above 16
unfoldable pub most_lists_of : ℕ → ℕ
most_lists_of n = cond (leb n max_ranked) (most_lists n) 0

-- where the row of K without each task ends, in a layer with a row of P cells for each rank
unfoldable pub rank_ends : ℕ → ℕ → List ℕ
rank_ends P K = map_below max_ranked (λ t. rank_of (without K t) * P + P)

-- L comes next of K's size: above it, with as many of the n tasks, and no list of that size between
pub record NextOfSize (n K L : ℕ) : Type 0 where
  pub above : K < L
  pub same : size n L ≡ size n K
  pub none_between : (M : ℕ) → K < M → M < L → size n M ≡ size n K → ⊥
