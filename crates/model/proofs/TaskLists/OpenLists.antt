-- A list of n tasks stays one where a task is joined, and no task from n on is in it to be counted. Assumes nothing.
use Rattle.model.proofs.Basics.{◌≡◌, sym, ap, ◌∙◌, Bool, cond, and_comm, ℕ, zero, suc, ◌+◌, ◌/◌, ◌^◌, ◌≤◌, ◌<◌, le_of_lt, arith, leb}
use Rattle.model.proofs.Basics.{leb-true, leb-false}
use Rattle.model.specs.{count_below, bit, member, with, watched_in}
use Rattle.model.proofs.Tools.{Folds.sum_cong, Tests.by_test}
use Rattle.model.proofs.TaskLists.Masks.{bit_zero, bit_suc, with_is, with_member, watched_below, by_bit}

join_lt : (t n K : ℕ) → bit K t ≡ 0 → K < 2 ^ n → t < n → K + 2 ^ t < 2 ^ n
join_lt t zero K h l m = absurd (omega arith)
join_lt zero (suc n) K h l m = omega (arith, rw bit_zero at h)
join_lt (suc t) (suc n) K h l m = omega (arith, join_lt t n (K / 2) (rw bit_suc at h) (omega arith) (omega arith))

pub with_lt : (n K t : ℕ) → K < 2 ^ n → t < n → with K t < 2 ^ n
with_lt n K t l m = by_bit K t (λ w. rw with_is (join_lt t n K w l m)) (λ w. rw with_member l)

-- watched and open, or open and watched
watched_swap : (n W K : ℕ) → watched_in n W K ≡ watched_in n K W
unfolding watched_in count_below
watched_swap n W K = sum_cong n _ _ (λ j l. ap (λ (b : Bool). cond b 1 0) (and_comm (member W j) (member K j)))

-- counted up to any number that the list lies below, the open watched tasks are the same
pub watched_same : (n m W K : ℕ) → K < 2 ^ n → K < 2 ^ m → watched_in n W K ≡ watched_in m W K
watched_same n m W K h l = by_test (leb n m)
    (λ w. sym (open_below n m h (leb-true n m w)))
    (λ w. open_below m n l (le_of_lt (leb-false n m w)))
  where
    open_below : (i j : ℕ) → K < 2 ^ i → i ≤ j → watched_in j W K ≡ watched_in i W K
    open_below i j h l = watched_swap j W K ∙ watched_below i j K W h l ∙ watched_swap i K W
