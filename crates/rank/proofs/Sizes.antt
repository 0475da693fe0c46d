-- Sizes: a list by its highest task and the others, more tasks than a list has, and the least number that a list of some size has. Assumes nothing.
use Rattle.model.proofs.Basics.{◌≡◌, sym, ap, ◌∙◌, ℕ, zero, suc, ◌+◌, ◌/◌, ◌%◌, ◌^◌, ◌≤◌, ◌<◌, zero-add, one-add, arith}
use Rattle.model.specs.{sum_below, bit, with, full, size}
use Rattle.model.proofs.Tools.Tests.{by_last}
use Rattle.model.proofs.Tools.Folds.{sum_cong, sum_first}
use Rattle.model.proofs.TaskLists.Masks.{bit_zero, bit_suc, bit_above, with_is, with_same, with_other, size_is}
use Rattle.rank.proofs.Sums.{sum_stays}

-- task n is counted apart
pub size_last : (n K : ℕ) → size (suc n) K ≡ size n K + bit K n
size_last n K = size_is (suc n) K ∙ ap (λ (s : ℕ). s + bit K n) (sym (size_is n K))

-- lists with the same tasks below n have as many of them
pub size_cong : (n K L : ℕ) → ((j : ℕ) → j < n → bit K j ≡ bit L j) → size n K ≡ size n L
size_cong n K L h = size_is n K ∙ sum_cong n (bit K) (bit L) h ∙ sym (size_is n L)

-- no task at or above n is in K, so counting further adds nothing
pub size_narrow : (n m K : ℕ) → K < 2 ^ n → n ≤ m → size m K ≡ size n K
size_narrow n m K l h = size_is m K ∙ sum_stays n m (bit K) h (λ j a b. bit_above n j K l a) ∙ sym (size_is n K)

-- ---- a list of n tasks, and the same list with task n

module _ (n K : ℕ) (l : K < 2 ^ n) where
  joined : 2 ^ n + K ≡ with K n
  joined = omega (arith, with_is K n (bit_above n n K l (omega arith)))

  pub joined_last : bit (2 ^ n + K) n ≡ 1
  joined_last = rw joined (with_same K n)

  pub joined_below : (j : ℕ) → j < n → bit (2 ^ n + K) j ≡ bit K j
  joined_below j h = rw joined (with_other K n j (omega arith))

  pub size_without_last : size (suc n) K ≡ size n K
  size_without_last = size_narrow n (suc n) K l (omega arith)

  pub size_with_last : size (suc n) (2 ^ n + K) ≡ suc (size n K)
  size_with_last = omega (arith, size_last n (2 ^ n + K), joined_last, size_cong n (2 ^ n + K) K joined_below)

-- ---- the least number of a list of m tasks is that of the full list of m tasks

size_first : (n K : ℕ) → size (suc n) K ≡ K % 2 + size n (K / 2)
size_first n K =
    let rest : sum_below n (λ j. bit K (suc j)) ≡ sum_below n (bit (K / 2)) = sum_cong n _ _ (λ j l. bit_suc K j) in
    omega (arith, size_is (suc n) K, sum_first n (bit K), bit_zero K, size_is n (K / 2))

pub pow_size : (n K : ℕ) → 2 ^ size n K ≤ suc K
pow_size zero K = rw (size_is 0 K) (omega arith)
pow_size (suc n) K = rw (size_first n K) (by_last (K % 2) 1 (omega arith)
    (λ w. rw (w, one-add) (omega (arith, pow_size n (K / 2))))
    (λ w. let z : K % 2 ≡ 0 = omega arith in rw (z, zero-add) (omega (arith, pow_size n (K / 2)))))

pub full_least : (n m K : ℕ) → K < 2 ^ n → size n K ≡ m → full m ≤ K
unfolding full
full_least n m K l e = omega (arith, rw e at (pow_size n K))
