-- The rank of a list by counting: lists of one size are counted by binomials, from the highest task down, and so is the rank. Assumes nothing.
use Rattle.model.proofs.Basics.{◌≡◌, refl, sym, ap₂, ◌∙◌, Bool, true, false, cond, ◌&&◌, ℕ, zero, suc, ◌+◌, ◌-◌, ◌%◌, ◌^◌, ◌≤◌, ◌<◌, arith, eqb}
use Rattle.model.proofs.Basics.{eqb·suc-suc, ltb, eq-eqb, ne_eqb, lt-ltb, le-ltb, ltb-true, ltb-false, and-true, and-false, add-zero, pow_mono}
use Rattle.model.proofs.Basics.{pow_pos, lt_of_lt_of_le}
use native.Mathlib.Nat.{mod-eq_of_lt}
use Rattle.model.specs.{sum_below, count_below, bit, full, size}
use Rattle.model.proofs.Tools.Tests.{by_test, by_last}
use Rattle.model.proofs.Tools.Folds.{sum_cong, sum_none, sum_le}
use Rattle.model.proofs.TaskLists.Masks.{bit_above, size_none, size_full, full_lt}
use Rattle.rank.specs.Binomials.{binomial, most_lists}
use Rattle.rank.specs.Ranks.{same_size, rank, rank_part, binomial_rank, max_ranked, rank_of}
use Rattle.rank.proofs.Sums.{sum_split, count_less}
use Rattle.rank.proofs.Sizes.{size_narrow, size_cong, joined_last, joined_below, size_without_last, size_with_last}
use Rattle.rank.proofs.Binomials.{binomial_all, binomial_most}

-- how many lists below K have k of the n tasks
abbrev lists_to : ℕ → ℕ → ℕ → ℕ
lists_to n k K = sum_below K (λ L. cond (eqb (size n L) k) 1 0)

-- the lists to K, or to 2 ^ n + K, of n + 1 tasks: task n is in none of the first, and in all that are added
to_without : (n k K : ℕ) → K ≤ 2 ^ n → lists_to (suc n) k K ≡ lists_to n k K
to_without n k K h = sum_cong K _ _ (λ L l. rw (size_without_last n L (omega arith)))

to_with : (n k K : ℕ) → K ≤ 2 ^ n → lists_to (suc n) (suc k) (2 ^ n + K) ≡ lists_to n (suc k) (2 ^ n) + lists_to n k K
to_with n k K h =
    sum_split (2 ^ n) K (λ L. cond (eqb (size (suc n) L) (suc k)) 1 0)
    ∙ ap₂ ◌+◌ (to_without n (suc k) (2 ^ n) (omega arith)) (sum_cong K _ _ (λ L l. rw (size_with_last n L (omega arith), eqb·suc-suc)))

to_with_none : (n K : ℕ) → K ≤ 2 ^ n → lists_to (suc n) 0 (2 ^ n + K) ≡ lists_to n 0 (2 ^ n)
to_with_none n K h =
    sum_split (2 ^ n) K (λ L. cond (eqb (size (suc n) L) 0) 1 0)
    ∙ ap₂ ◌+◌ (to_without n 0 (2 ^ n) (omega arith))
    (sum_none K _ (λ L l. rw (size_with_last n L (omega arith), ne_eqb (suc (size n L)) 0 (omega arith)))) ∙ add-zero _

twice : (n : ℕ) → 2 ^ suc n ≡ 2 ^ n + 2 ^ n
twice n = omega arith

lists_to_all : (n k : ℕ) → lists_to n k (2 ^ n) ≡ binomial n k
lists_to_all zero zero = rw (size_none 0)
lists_to_all zero (suc k) = rw (size_none 0, ne_eqb 0 (suc k) (omega arith))
lists_to_all (suc n) zero = rw (twice n) (to_with_none n (2 ^ n) (omega arith) ∙ lists_to_all n 0)
lists_to_all (suc n) (suc k) = rw (twice n) (to_with n k (2 ^ n) (omega arith) ∙ omega (arith, lists_to_all n (suc k), lists_to_all n k))

-- the number of lists of k of n tasks
pub lists_of_size : (n k : ℕ) → count_below (2 ^ n) (λ L. eqb (size n L) k) ≡ binomial n k
unfolding count_below
lists_of_size n k = lists_to_all n k

-- ---- ranks

-- lists from K on have no smaller number
rank_is : (n K : ℕ) → K ≤ 2 ^ n → rank n K ≡ lists_to n (size n K) K
unfolding rank count_below same_size
rank_is n K h =
    let f : ℕ → ℕ = λ L. cond (eqb (size n L) (size n K) && ltb L K) 1 0 in
    let all : K + (2 ^ n - K) ≡ 2 ^ n = omega arith in
    let below : sum_below K f ≡ lists_to n (size n K) K = sum_cong K _ _ (λ L l. rw (lt-ltb L K l, and-true)) in
    let above : sum_below (2 ^ n - K) (λ i. f (K + i)) ≡ 0 = sum_none (2 ^ n - K) _ (λ i l. rw (le-ltb (K + i) K (omega arith), and-false)) in
    omega (arith, rw all at (sum_split K (2 ^ n - K) f))

-- K is of the size, and below L
pub rank_rises : (n K L : ℕ) → K < L → L < 2 ^ n → size n K ≡ size n L → rank n K < rank n L
unfolding count_below
rank_rises n K L h l e =
    rw (rank_is n K (omega arith), rank_is n L (omega arith), e) (count_less K L (λ M. eqb (size n M) (size n L)) h (eq-eqb _ _ e))

pub rank_distinct : (n K L : ℕ) → K < 2 ^ n → L < 2 ^ n → size n K ≡ size n L → rank n K ≡ rank n L → K ≡ L
rank_distinct n K L h l e r = by_test (ltb K L)
    (λ w. absurd (omega (arith, rank_rises n K L (ltb-true K L w) l e)))
    (λ w. by_last L K (omega (arith, ltb-false K L w)) sym (λ (v : L < K). absurd (omega (arith, rank_rises n L K v h (sym e)))))

pub rank_below : (n K : ℕ) → K < 2 ^ n → rank n K < binomial n (size n K)
unfolding count_below
rank_below n K h =
    rw (rank_is n K (omega arith), ← lists_to_all n (size n K)) (count_less K (2 ^ n) (λ L. eqb (size n L) (size n K)) h (eq-eqb (size n K) (size n K) refl))

pub rank_most : (n K : ℕ) → K < 2 ^ n → rank n K < most_lists n
rank_most n K h = omega (arith, rank_below n K h, binomial_most n (size n K))

-- no more lists than there are numbers below K
pub rank_le : (n K : ℕ) → K < 2 ^ n → rank n K ≤ K
rank_le n K h = rw (rank_is n K (omega arith)) (omega (arith, sum_le K 1 _ (λ L l. at_most_one (eqb (size n L) (size n K)))))
  where
    at_most_one : (b : Bool) → cond b 1 0 ≤ 1
    at_most_one true = omega arith
    at_most_one false = omega arith

-- the full list and the empty one are the only ones of their size
pub rank_full : (n : ℕ) → rank n (full n) ≡ 0
rank_full n = omega (arith, rw (size_full n, binomial_all n) at (rank_below n (full n) (full_lt n)))

pub rank_empty : (n : ℕ) → rank n 0 ≡ 0
rank_empty n = omega (arith, rw (size_none n) at (rank_below n 0 (pow_pos n)))

-- the rank of a list of n tasks is the same among more tasks
pub rank_narrow : (n m K : ℕ) → K < 2 ^ n → n ≤ m → rank m K ≡ rank n K
rank_narrow n m K l h =
    rank_is m K (omega (arith, pow_mono h))
    ∙ sum_cong K _ _ (λ L b. rw (size_narrow n m L (omega arith) h, size_narrow n m K l h))
    ∙ sym (rank_is n K (omega arith))

-- the code's rank, for as many tasks as its table serves
pub rank_of_lem : (n K : ℕ) → n ≤ max_ranked → K < 2 ^ n → rank_of K ≡ rank n K
unfolding rank_of
rank_of_lem n K h l =
    let small : K % 2 ^ max_ranked ≡ K = mod-eq_of_lt (lt_of_lt_of_le l (pow_mono h)) in
    rw small (rank_narrow n max_ranked K l h)

-- ---- the rank by binomials

-- what the tasks below n add depends on those tasks only
pub part_cong : (K L j : ℕ) → ((i : ℕ) → i < suc j → bit K i ≡ bit L i) → rank_part K j ≡ rank_part L j
unfolding rank_part
part_cong K L j h = rw (h j (omega arith), size_cong j K L (λ i l. h i (omega arith)))

parts_cong : (n K L : ℕ) → ((j : ℕ) → j < n → bit K j ≡ bit L j) → binomial_rank n K ≡ binomial_rank n L
unfolding binomial_rank
parts_cong n K L h = sum_cong n _ _ (λ j l. part_cong K L j (λ i b. h i (omega arith)))

parts_without_last : (n K : ℕ) → K < 2 ^ n → binomial_rank (suc n) K ≡ binomial_rank n K
unfolding binomial_rank rank_part
parts_without_last n K l = rw (bit_above n n K l (omega arith)) (omega arith)

parts_with_last : (n K : ℕ) → K < 2 ^ n → binomial_rank (suc n) (2 ^ n + K) ≡ binomial n (suc (size n K)) + binomial_rank n K
unfolding binomial_rank rank_part
parts_with_last n K l = omega (arith, parts_cong n (2 ^ n + K) K (joined_below n K l), last)
  where
    last : rank_part (2 ^ n + K) n ≡ binomial n (suc (size n K))
    last = rw (joined_last n K l, size_cong n (2 ^ n + K) K (joined_below n K l))

-- the lists to K: where K has task n, first all those without it
counted_by_parts : (n K : ℕ) → K < 2 ^ n → lists_to n (size n K) K ≡ binomial_rank n K
unfolding binomial_rank
counted_by_parts zero K h = let z : K ≡ 0 = omega arith in rw z
counted_by_parts (suc n) K h = by_test (ltb K (2 ^ n))
    (λ w. let l = ltb-true K (2 ^ n) w in
    rw (size_without_last n K l, to_without n (size n K) K (omega arith), counted_by_parts n K l) (sym (parts_without_last n K l)))
    (λ w. let L = K - 2 ^ n in
    let e : K ≡ 2 ^ n + L = omega (arith, ltb-false K (2 ^ n) w) in
    let l : L < 2 ^ n = omega arith in
    rw (e, size_with_last n L l) (to_with n (size n L) L (omega arith)
    ∙ ap₂ ◌+◌ (lists_to_all n (suc (size n L))) (counted_by_parts n L l) ∙ sym (parts_with_last n L l)))

pub rank_by_binomials : (n K : ℕ) → K < 2 ^ n → rank n K ≡ binomial_rank n K
rank_by_binomials n K h = rank_is n K (omega arith) ∙ counted_by_parts n K h
