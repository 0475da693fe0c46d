-- Binomials: none above n, one of all, the most of a row, and half of all lists at most. Assumes nothing.
use native.Mathlib.Nat.{le-max_left, le-max_right, max-le}
use Rattle.model.proofs.Basics.{◌≡◌, refl, sym, ◌∙◌, ℕ, zero, suc, ◌+◌, ◌*◌, ◌-◌, ◌^◌, ◌≤◌, ◌<◌, le_trans, le_of_lt, add-one, arith, leb, leb-true}
use Rattle.model.proofs.Basics.{leb-false, le-leb, lt-leb, pow_pos, pow_mono}
use Rattle.model.proofs.Tools.Tests.{by_test, by_last}
use Rattle.std.specs.Prelude.{max}
use Rattle.std.proofs.lemmas.Bool.Decides.{nat_tests}
use Rattle.std.specs.Ordering.{ord_max, nat_cmp}
use Rattle.rank.specs.Binomials.{binomial, largest_below, most_lists}
use Rattle.rank.specs.Ranks.{max_ranked, most_lists_of}

pub binomial_above : (n k : ℕ) → n < k → binomial n k ≡ 0
binomial_above n zero h = absurd (omega arith)
binomial_above zero (suc k) h = refl
binomial_above (suc n) (suc k) h = omega (arith, binomial_above n k (omega arith), binomial_above n (suc k) (omega arith))

pub binomial_all : (n : ℕ) → binomial n n ≡ 1
binomial_all zero = refl
binomial_all (suc n) = omega (arith, binomial_all n, binomial_above n (suc n) (omega arith))

binomial_le : (n k : ℕ) → binomial n k ≤ 2 ^ n
binomial_le n zero = pow_pos n
binomial_le zero (suc k) = omega arith
binomial_le (suc n) (suc k) = omega (arith, binomial_le n k, binomial_le n (suc k))

pub binomial_small : {n : ℕ} (k : ℕ) → n < max_ranked → binomial n k ≤ 2 ^ max_ranked
binomial_small {n} k h = le_trans (binomial_le n k) (pow_mono (le_of_lt h))

-- ---- the largest of f i below n

largest_at : (n : ℕ) (f : ℕ → ℕ) (i : ℕ) → i < n → f i ≤ largest_below n f
largest_at zero f i h = absurd (omega arith)
largest_at (suc n) f i h = by_last i n h
    (λ w. rw w (le-max_right (largest_below n f) (f n)))
    (λ w. le_trans (largest_at n f i w) (le-max_left (largest_below n f) (f n)))

largest_le : (n c : ℕ) (f : ℕ → ℕ) → ((i : ℕ) → i < n → f i ≤ c) → largest_below n f ≤ c
largest_le zero c f h = omega arith
largest_le (suc n) c f h = max-le (largest_le n c f (λ i l. h i (omega arith))) (h n (omega arith))

-- the larger of two, as the code takes it
max_is : (a b : ℕ) → ord_max nat_cmp a b ≡ max a b
max_is a b = grind (arith, nat_tests)

-- one turn more of a loop that takes the larger: x is the number of the turn
pub largest_next : (n : ℕ) (f : ℕ → ℕ) {most x y : ℕ} → most ≡ largest_below n f → x ≡ f n → y ≡ ord_max nat_cmp most x → y ≡ largest_below (n + 1) f
largest_next n f e h m = rw (m, add-one, e, h) (max_is (largest_below n f) (f n))

-- ---- the most lists of one size

pub binomial_most : (n k : ℕ) → binomial n k ≤ most_lists n
unfolding most_lists
binomial_most n k = by_test (leb k n)
    (λ w. largest_at (suc n) (binomial n) k (omega (arith, leb-true k n w)))
    (λ w. omega (arith, binomial_above n k (leb-false k n w)))

-- as in the code
pub most_of : (n : ℕ) → n ≤ max_ranked → most_lists_of n ≡ most_lists n
unfolding most_lists_of
most_of n h = rw le-leb

pub none_of : (n : ℕ) → max_ranked < n → 0 ≡ most_lists_of n
unfolding most_lists_of
none_of n h = rw lt-leb

-- the last turn of a loop that takes the larger
pub all_most : {n k most x y : ℕ} → n ≤ max_ranked → k ≤ n → n ≤ k → most ≡ largest_below k (binomial n) → x ≡ binomial n k → y ≡ ord_max nat_cmp most x
    → y ≡ most_lists_of n
unfolding most_lists
all_most {n} {k} h a b e w m =
    let all : n ≡ k = omega arith in
    largest_next k (binomial n) e w m ∙ rw (← all, add-one) (sym (most_of n h))

-- ---- two layers, with a row for each list of one size, and a row for each list

half : (m k : ℕ) → 2 * binomial (suc (suc (suc m))) k < 2 ^ suc (suc (suc m))
half zero zero = omega arith
half zero (suc zero) = omega arith
half zero (suc (suc zero)) = omega arith
half zero (suc (suc (suc zero))) = omega arith
half zero (suc (suc (suc (suc k)))) = omega arith
half (suc m) zero = omega (arith, half m 0)
half (suc m) (suc k) = omega (arith, half m k, half m (suc k))

-- from three tasks on the layers have fewer rows
pub two_layers_less : (n : ℕ) → 3 ≤ n → 2 * most_lists n < 2 ^ n
unfolding most_lists
two_layers_less zero h = absurd (omega arith)
two_layers_less (suc zero) h = absurd (omega arith)
two_layers_less (suc (suc zero)) h = absurd (omega arith)
two_layers_less (suc (suc (suc m))) h =
    omega (arith, largest_le (suc (suc (suc (suc m)))) (2 ^ suc (suc m) - 1) (binomial (suc (suc (suc m)))) (λ k l. omega (arith, half m k)), half m 0)

-- for one task and for two they have as many
pub two_layers_same_1 : 2 * most_lists 1 ≡ 2 ^ 1
unfolding most_lists
two_layers_same_1 = refl

pub two_layers_same_2 : 2 * most_lists 2 ≡ 2 ^ 2
unfolding most_lists
two_layers_same_2 = refl
