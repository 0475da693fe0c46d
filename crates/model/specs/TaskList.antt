-- A list of tasks is a number: bit j stands for task j (01, Layout of a task sheet). Assumes nothing.
-- Here and in the other files 01 and 000 are the documents, and the words behind the comma name a section of document 01.
use Rattle.std.specs.Prelude.{Bool, ◌&&◌, List, [], ◌∷◌, ℕ, ◌+◌, ◌-◌, ◌*◌, ◌/◌, ◌%◌, ◌^◌, eqb}
use Rattle.model.specs.Folds.{count_below}

-- bit j of K: 1 where task j is in K, and 0 where it is not (01, Layout of a task sheet)
unfoldable pub bit : ℕ → ℕ → ℕ
bit K j = K / 2 ^ j % 2

-- task j is in K (01, Layout of a task sheet)
abbrev pub member : ℕ → ℕ → Bool
member K j = eqb (bit K j) 1

-- K with task j: joined (01, The shape of each place)
unfoldable pub with : ℕ → ℕ → ℕ
with K j = K + (1 - bit K j) * 2 ^ j

-- K without task j: struck off (01, The shape of each place)
unfoldable pub without : ℕ → ℕ → ℕ
without K j = K - bit K j * 2 ^ j

-- the full list of n tasks (01, Layout of a task sheet)
unfoldable pub full : ℕ → ℕ
full n = 2 ^ n - 1

-- how many of the n tasks are in K (000, the cardinality of a list in section 4)
unfoldable pub size : ℕ → ℕ → ℕ
size n K = count_below n (member K)

-- how many of the n tasks are watched, in W, and in K (01, Cost of a round)
unfoldable pub watched_in : ℕ → ℕ → ℕ → ℕ
watched_in n W K = count_below n (λ j. member W j && member K j)

-- the list of the tasks ts, as K at a step holds the tasks of the doors to come (01, Cost of a round; 000, (2.12))
abbrev pub mask_of : List ℕ → ℕ
mask_of [] = 0
mask_of (t ∷ ts) = with (mask_of ts) t
