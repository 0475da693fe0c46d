-- Binomials, by Pascal's rule, and the most lists of one size (02, Req 01). Assumes nothing.
-- Here and in the other files 02 is the document of requests.
use Rattle.std.specs.Prelude.{ℕ, zero, suc, ◌+◌, max}

-- n over k: how many lists of k tasks there are among those of n tasks (`lists_of_size`)
abbrev pub binomial : ℕ → ℕ → ℕ
binomial n zero = 1
binomial zero (suc k) = 0
binomial (suc n) (suc k) = binomial n k + binomial n (suc k)

-- the largest of f i over the i below n, and 0 where there is none
abbrev pub largest_below : ℕ → (ℕ → ℕ) → ℕ
largest_below zero f = 0
largest_below (suc n) f = max (largest_below n f) (f n)

-- the number B of document 02: the most lists of one size that n tasks have, which is the largest of the binomials of n
unfoldable pub most_lists : ℕ → ℕ
most_lists n = largest_below (suc n) (binomial n)
