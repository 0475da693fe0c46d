-- Folds over the numbers 0, 1, .. below n, and over lists: tests, sums and choices that compute. Assumes nothing.
use Rattle.std.specs.Prelude.{Bool, true, false, cond, ◌&&◌, ◌||◌, List, [], ◌∷◌, ◌++◌, map, ℕ, zero, suc, ◌+◌, min, eqb, ltb, leb}
use Rattle.std.proofs.Math.Option.{Option, none, some}

-- ---- the numbers below n

-- the test passes at every i below n
abbrev pub all_below : ℕ → (ℕ → Bool) → Bool
all_below zero test = true
all_below (suc n) test = all_below n test && test n

-- the test passes at some i below n
abbrev pub any_below : ℕ → (ℕ → Bool) → Bool
any_below zero test = false
any_below (suc n) test = any_below n test || test n

-- the sum of f i over the i below n
abbrev pub sum_below : ℕ → (ℕ → ℕ) → ℕ
sum_below zero f = 0
sum_below (suc n) f = sum_below n f + f n

-- at how many i below n the test passes
unfoldable pub count_below : ℕ → (ℕ → Bool) → ℕ
count_below n test = sum_below n (λ i. cond (test i) 1 0)

-- x is at least lo and at most hi
unfoldable pub is_between : ℕ → ℕ → ℕ → Bool
is_between lo hi x = leb lo x && leb x hi

module _ {A : Type 0} where
  -- the lists f 0, f 1, .. below n, one behind the other
  abbrev pub flat_map_below : ℕ → (ℕ → List A) → List A
  flat_map_below zero f = []
  flat_map_below (suc n) f = flat_map_below n f ++ f n

  -- the list f 0, f 1, .. below n
  unfoldable pub map_below : ℕ → (ℕ → A) → List A
  map_below n f = flat_map_below n (λ i. f i ∷ [])

-- the numbers below n that pass the test, in their order
abbrev pub passing_below : ℕ → (ℕ → Bool) → List ℕ
passing_below n test = flat_map_below n (λ i. cond (test i) (i ∷ []) [])

-- all lists of k numbers below n, ordered by the first number in which two of them differ
abbrev pub lists_below : ℕ → ℕ → List (List ℕ)
lists_below n zero = [] ∷ []
lists_below n (suc k) = flat_map_below n (λ d. map (λ (ds : List ℕ). d ∷ ds) (lists_below n k))

-- ---- lists

module _ {A : Type 0} where
  -- the test passes at every element
  abbrev pub all_in : (A → Bool) → List A → Bool
  all_in test [] = true
  all_in test (x ∷ xs) = test x && all_in test xs

  -- the elements that pass the test, in their order
  abbrev pub keep_if : (A → Bool) → List A → List A
  keep_if test [] = []
  keep_if test (x ∷ xs) = cond (test x) (x ∷ keep_if test xs) (keep_if test xs)

  -- the list has no element
  abbrev pub is_empty : List A → Bool
  is_empty [] = true
  is_empty (x ∷ xs) = false

  -- of two, the one of lesser cost; the first where they cost the same
  abbrev pub cheaper : (A → ℕ) → Option A → Option A → Option A
  cheaper cost none y = y
  cheaper cost (some x) none = some x
  cheaper cost (some x) (some y) = cond (ltb (cost y) (cost x)) (some y) (some x)

  -- the first of the elements of least cost
  abbrev pub first_least : (A → ℕ) → List A → Option A
  first_least cost [] = none
  first_least cost (x ∷ xs) = cheaper cost (some x) (first_least cost xs)

-- the least of the numbers, and 0 where there are none
abbrev pub least : List ℕ → ℕ
least [] = 0
least (x ∷ []) = x
least (x ∷ y ∷ ys) = min x (least (y ∷ ys))

-- how often t stands in the list
abbrev pub count_of : ℕ → List ℕ → ℕ
count_of t [] = 0
count_of t (x ∷ xs) = cond (eqb x t) 1 0 + count_of t xs

-- where t first stands in the list, counted from 0; the list's length where it does not
abbrev pub index_of : ℕ → List ℕ → ℕ
index_of t [] = 0
index_of t (x ∷ xs) = cond (eqb x t) 0 (suc (index_of t xs))

-- the two lists are equal
abbrev pub same_list : List ℕ → List ℕ → Bool
same_list [] [] = true
same_list [] (y ∷ ys) = false
same_list (x ∷ xs) [] = false
same_list (x ∷ xs) (y ∷ ys) = eqb x y && same_list xs ys
