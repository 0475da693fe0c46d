-- The highest task of a list, by the machine's count of zeros, what its lowest one says of its size, and the first tasks of a mask. Assumes nothing.
use Rattle.model.proofs.Basics.{◌≡◌, ap, ◌∙◌, ℕ, suc, ◌+◌, ◌-◌, ◌/◌, ◌%◌, ◌^◌, ◌<◌, arith, pow_pos}
use Rattle.model.specs.{bit, without, size}
use Rattle.model.proofs.Tools.Folds.{sum_none}
use Rattle.model.proofs.TaskLists.Masks.{bit_le, without_is, size_is}
use lib.Pow.{field, mod-mod-pow}
use lib.Count.{count_leading_zeros, leading_top}
use Rattle.model.proofs.TaskLists.Lowest.{Lowest}
use Rattle.rank.proofs.Sizes.{size_cong, size_last, size_narrow, joined_last}

pub without_less : (K t : ℕ) → bit K t ≡ 1 → without K t < K
without_less K t h = omega (arith, without_is K t h, bit_le t K h, pow_pos t)

-- ---- the first n tasks

pub bit_first : (n K j : ℕ) → j < n → bit (K % 2 ^ n) j ≡ bit K j
unfolding bit
bit_first n K j h =
    let m = n - suc j in
    let e : n ≡ m + 1 + j = omega arith in
    rw (e, field K (m + 1) j) (mod-mod-pow (K / 2 ^ j) m 1)

pub size_mask : (n K : ℕ) → size n (K % 2 ^ n) ≡ size n K
size_mask n K = size_cong n (K % 2 ^ n) K (bit_first n K)

-- ---- the lowest task

pub lowest_none : {K t : ℕ} → Lowest K t → size t K ≡ 0
lowest_none {K} {t} s = size_is t K ∙ sum_none t (bit K) s.none_below

-- ---- the highest task

pub record Highest (K t : ℕ) : Type 0 where
  pub task : bit K t ≡ 1
  pub within : K < 2 ^ suc t

pub leading_less : (w K : ℕ) → 0 < K → K < 2 ^ w → count_leading_zeros w K < w
leading_less w K p h = let s = leading_top w K p h in omega (arith, s.1)

pub highest : (w K : ℕ) → 0 < K → K < 2 ^ w → Highest K (w - 1 - count_leading_zeros w K)
highest w K p h =
    let s = leading_top w K p h in
    let e : w - 1 - count_leading_zeros w K ≡ s.0 = omega (arith, s.1) in
    let k : K ≡ 2 ^ s.0 + (K - 2 ^ s.0) = omega (arith, s.2) in
    rw e (record { task = ap (λ (x : ℕ). bit x s.0) k ∙ joined_last s.0 (K - 2 ^ s.0) (omega (arith, s.2, s.3)); within = s.3 })

-- the tasks below it, and it
pub highest_size : {K t : ℕ} (n : ℕ) → Highest K t → t < n → size n K ≡ suc (size t K)
highest_size {K} {t} n s h = size_narrow (suc t) n K s.within h ∙ omega (arith, size_last t K, s.task)
