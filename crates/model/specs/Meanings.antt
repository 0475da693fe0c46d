-- What a solution and a completion are in the language of logic, for a reader who would rather believe that than the tests (01, Cost of a round; 000, (2.4) to
-- (2.10)). `solution_means` and `completion_means` show that both say the same. Assumes nothing.
use Rattle.std.specs.Prelude.{◌≡◌, true, ℕ, ◌≤◌, ◌<◌}
use mathlib.Core.List.{List, map, Memᴰ}
use Rattle.model.specs.Folds.{count_of, index_of}
use Rattle.model.specs.TaskList.{bit, member}
use Rattle.model.specs.Sheet.{Sheet}

-- a solution: the start is one of the sheet's, and so is each door; of the tasks as driven each of the sheet's stands once and nothing else stands there; and of
-- each pair the sender stands before the receiver
pub record SolutionMeans (S : Sheet) (s : ℕ) (ds : List ℕ) : Type 0 where
  pub start : s < S.starts
  pub doors : (d : ℕ) → Memᴰ d ds → d < S.doors
  pub once : (t : ℕ) → t < S.tasks → count_of t (map S.task ds) ≡ 1
  pub nothing_else : (t : ℕ) → S.tasks ≤ t → count_of t (map S.task ds) ≡ 0
  pub pairs : (i : ℕ) → i < S.pairs → index_of (S.sender i) (map S.task ds) < index_of (S.receiver i) (map S.task ds)

-- a completion of K: each door is one of the sheet's; of the tasks as driven each of K stands once and nothing else stands there; and of each pair with both
-- its tasks in K the sender stands before the receiver
pub record CompletionMeans (S : Sheet) (K : ℕ) (ds : List ℕ) : Type 0 where
  pub doors : (d : ℕ) → Memᴰ d ds → d < S.doors
  pub once : (t : ℕ) → count_of t (map S.task ds) ≡ bit K t
  pub pairs : (i : ℕ) → i < S.pairs → member K (S.sender i) ≡ true → member K (S.receiver i) ≡ true
      → index_of (S.sender i) (map S.task ds) < index_of (S.receiver i) (map S.task ds)
