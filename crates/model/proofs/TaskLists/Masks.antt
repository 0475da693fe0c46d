-- Masks as sets: what is in a list after a task is struck off, by halving list and task together, or joined, which striking it off again undoes;
-- equal members, equal lists. Assumes nothing.
use Rattle.model.proofs.Basics.{◌≡◌, refl, sym, ap, ◌∙◌, ◌≢◌, ◌⊎◌, inl, inr, true, false, cond, ◌||◌, or-false, ℕ, zero, suc, ◌+◌, ◌-◌, ◌/◌, ◌%◌}
use Rattle.model.proofs.Basics.{◌^◌, ◌≤◌, ◌<◌, add-zero, pow-succ', mod-lt, zero-lt-suc, zero-div, div-one, div-div-eq-div-mul}
use Rattle.model.proofs.Basics.{arith, eqb, ltb, pow_pos, pow_mono, eqb-true, eqb-false, eq-eqb, lt-ltb, le-ltb, le_ind}
use Rattle.model.specs.{sum_below, count_below, bit, member, with, without, full, size, watched_in, with_in, mask_bits, lists_of, full_of}
use Rattle.model.proofs.Tools.Folds.{sum_cong, sum_none, sum_zero, sum_more, sum_le}
use Rattle.model.proofs.Tools.Tests.{by_test, by_last, or-true}

-- ---- bits

pub bit_zero : (K : ℕ) → bit K 0 ≡ K % 2
unfolding bit
bit_zero K = rw div-one

pub bit_suc : (K j : ℕ) → bit K (suc j) ≡ bit (K / 2) j
unfolding bit
bit_suc K j = rw (pow-succ', ← div-div-eq-div-mul)

pub bit_lt : (K j : ℕ) → bit K j < 2
unfolding bit
bit_lt K j = mod-lt (K / 2 ^ j) (zero-lt-suc 1)

pub bit_none : (j : ℕ) → bit 0 j ≡ 0
unfolding bit
bit_none j = rw zero-div

-- by a bit: one way where it is 0, another where it is 1
pub by_bit : {P : Type 0} (K j : ℕ) → (bit K j ≡ 0 → P) → (bit K j ≡ 1 → P) → P
by_bit K j f g = by_last (bit K j) 1 (bit_lt K j) g (λ l. f (omega arith))

pub bit_cases : (K j : ℕ) → (bit K j ≡ 0) ⊎ (bit K j ≡ 1)
bit_cases K j = by_bit K j inl inr

pub member_bit : (K j : ℕ) → member K j ≡ true → bit K j ≡ 1
member_bit K j = eqb-true (bit K j) 1

pub bit_member : (K j : ℕ) → bit K j ≡ 1 → member K j ≡ true
bit_member K j = eq-eqb (bit K j) 1

pub not_member_bit : (K j : ℕ) → member K j ≡ false → bit K j ≡ 0
not_member_bit K j e = let n : bit K j ≢ 1 = eqb-false (bit K j) 1 e in omega (arith, bit_lt K j)

-- a member counts 1
pub counted : (K j : ℕ) → cond (member K j) 1 0 ≡ bit K j
counted K j = by_bit K j (λ w. rw w) (λ w. rw w)

-- a task of K weighs no more than K
pub bit_le : (j K : ℕ) → bit K j ≡ 1 → 2 ^ j ≤ K
bit_le zero K h = omega (arith, rw bit_zero at h)
bit_le (suc j) K h = omega (arith, bit_le j (K / 2) (rw bit_suc at h))

-- no task at or above n is in a list of n tasks
pub bit_above : (n j K : ℕ) → K < 2 ^ n → n ≤ j → bit K j ≡ 0
bit_above n j K l h = by_bit K j (λ w. w) (λ w. absurd (omega (arith, bit_le j K w, pow_mono h)))

pub full_bit : (n j : ℕ) → j < n → bit (full n) j ≡ 1
unfolding full
full_bit zero j l = absurd (omega arith)
full_bit (suc n) zero l = bit_zero (2 ^ suc n - 1) ∙ omega (arith, pow_pos n)
full_bit (suc n) (suc j) l = bit_suc (2 ^ suc n - 1) j ∙ ap (λ (x : ℕ). bit x j) (omega (arith, pow_pos n)) ∙ full_bit n j (omega arith)

pub full_lt : (n : ℕ) → full n < 2 ^ n
unfolding full
full_lt n = omega (arith, pow_pos n)

-- ---- a task struck off

strike_half : (K t : ℕ) → (K - 2 ^ suc t) / 2 ≡ K / 2 - 2 ^ t
strike_half K t = omega arith

strike_odd : (K t : ℕ) → 2 ^ suc t ≤ K → (K - 2 ^ suc t) % 2 ≡ K % 2
strike_odd K t h = omega arith

strike_same : (t K : ℕ) → bit K t ≡ 1 → bit (K - 2 ^ t) t ≡ 0
strike_same zero K h = rw bit_zero (omega (arith, rw bit_zero at h))
strike_same (suc t) K h = rw (bit_suc, strike_half) (strike_same t (K / 2) (rw bit_suc at h))

strike_other : (t j K : ℕ) → bit K t ≡ 1 → j ≢ t → bit (K - 2 ^ t) j ≡ bit K j
strike_other zero zero K h n = absurd (n refl)
strike_other zero (suc j) K h n = bit_suc (K - 1) j ∙ ap (λ (x : ℕ). bit x j) (omega (arith, rw bit_zero at h)) ∙ sym (bit_suc K j)
strike_other (suc t) zero K h n = bit_zero (K - 2 ^ suc t) ∙ strike_odd K t (bit_le (suc t) K h) ∙ sym (bit_zero K)
strike_other (suc t) (suc j) K h n =
    bit_suc (K - 2 ^ suc t) j ∙ ap (λ (x : ℕ). bit x j) (strike_half K t)
    ∙ strike_other t j (K / 2) (sym (bit_suc K t) ∙ h) (λ e. n (ap suc e)) ∙ sym (bit_suc K j)

pub without_is : (K t : ℕ) → bit K t ≡ 1 → without K t ≡ K - 2 ^ t
unfolding without
without_is K t h = rw h (omega arith)

pub without_none : (K t : ℕ) → bit K t ≡ 0 → without K t ≡ K
unfolding without
without_none K t h = rw h (omega arith)

-- the task is gone, whether or not it was there
pub without_same : (K t : ℕ) → bit (without K t) t ≡ 0
without_same K t = by_bit K t (λ w. rw without_none w) (λ w. rw without_is (strike_same t K w))

-- and every other task is as it was
pub without_other : (K t j : ℕ) → j ≢ t → bit (without K t) j ≡ bit K j
without_other K t j n = by_bit K t (λ w. rw without_none refl) (λ w. rw without_is (strike_other t j K w n))

pub without_le : (K t : ℕ) → without K t ≤ K
unfolding without
without_le K t = omega arith

pub with_without : (K t : ℕ) → bit K t ≡ 1 → with (without K t) t ≡ K
unfolding with
with_without K t h = rw (without_same, without_is) (omega (arith, bit_le t K h))

-- ---- a task joined

join_half : (K t : ℕ) → (K + 2 ^ suc t) / 2 ≡ K / 2 + 2 ^ t
join_half K t = omega arith

join_same : (t K : ℕ) → bit K t ≡ 0 → bit (K + 2 ^ t) t ≡ 1
join_same zero K h = rw bit_zero (omega (arith, rw bit_zero at h))
join_same (suc t) K h = rw (bit_suc, join_half) (join_same t (K / 2) (rw bit_suc at h))

-- striking it off again gives K back
join_other : (t j K : ℕ) → bit K t ≡ 0 → j ≢ t → bit (K + 2 ^ t) j ≡ bit K j
join_other t j K h n = sym (strike_other t j (K + 2 ^ t) (join_same t K h) n) ∙ ap (λ (x : ℕ). bit x j) (omega arith)

pub with_is : (K t : ℕ) → bit K t ≡ 0 → with K t ≡ K + 2 ^ t
unfolding with
with_is K t h = rw h (omega arith)

pub with_member : (K t : ℕ) → bit K t ≡ 1 → with K t ≡ K
unfolding with
with_member K t h = rw h (omega arith)

-- the task is there, whether or not it was
pub with_same : (K t : ℕ) → bit (with K t) t ≡ 1
with_same K t = by_bit K t (λ w. rw with_is (join_same t K w)) (λ w. rw with_member w)

-- and every other task is as it was
pub with_other : (K t j : ℕ) → j ≢ t → bit (with K t) j ≡ bit K j
with_other K t j n = by_bit K t (λ w. rw with_is (join_other t j K w n)) (λ w. rw with_member refl)

pub member_with : (K t j : ℕ) → member (with K t) j ≡ (member K j || eqb t j)
member_with K t j = by_test (eqb t j)
    (λ w. let e : t ≡ j = eqb-true t j w in rw (w, e, with_same, or-true (member K j) true refl))
    (λ w. rw (w, with_other K t j (λ z. eqb-false t j w (sym z)), or-false))

-- ---- a list is known by its members

pub same_members : (n K L : ℕ) → K < 2 ^ n → L < 2 ^ n → ((j : ℕ) → j < n → bit K j ≡ bit L j) → K ≡ L
same_members zero K L h l f = omega arith
same_members (suc n) K L h l f =
    let half : K / 2 ≡ L / 2 = same_members n (K / 2) (L / 2) (omega arith) (omega arith) (λ j m. sym (bit_suc K j) ∙ f (suc j) (omega arith) ∙ bit_suc L j) in
    omega (arith, sym (bit_zero K) ∙ f 0 (omega arith) ∙ bit_zero L)

-- a list with no task is empty
pub no_bits : (n K : ℕ) → K < 2 ^ n → ((j : ℕ) → j < n → bit K j ≡ 0) → K ≡ 0
no_bits n K h f = same_members n K 0 h (pow_pos n) (λ j l. f j l ∙ sym (bit_none j))

-- ---- sizes

pub size_is : (n K : ℕ) → size n K ≡ sum_below n (bit K)
unfolding size count_below
size_is n K = sum_cong n _ _ (λ j l. counted K j)

pub size_none : (n : ℕ) → size n 0 ≡ 0
size_none n = size_is n 0 ∙ sum_none n (bit 0) (λ j l. bit_none j)

pub size_without : (n K t : ℕ) → t < n → bit K t ≡ 1 → size n K ≡ suc (size n (without K t))
size_without n K t l h = size_is n K
    ∙ sum_more (bit (without K t)) (bit K) t n l (rw (h, without_same)) (λ j o. sym (without_other K t j o))
    ∙ ap suc (sym (size_is n (without K t)))

-- a list of no task is empty
pub size_zero : (n K : ℕ) → K < 2 ^ n → size n K ≡ 0 → K ≡ 0
size_zero n K l e = no_bits n K l (sum_zero n (bit K) (sym (size_is n K) ∙ e))

pub size_le : (n K : ℕ) → size n K ≤ n
size_le n K = omega (arith, size_is n K, sum_le n 1 (bit K) (λ j l. omega (arith, bit_lt K j)))

pub size_full : (n : ℕ) → size n (full n) ≡ n
size_full n = size_is n (full n) ∙ sum_cong n (bit (full n)) (λ j. 1) (λ j l. full_bit n j l) ∙ ones n
  where
    ones : (m : ℕ) → sum_below m (λ j. 1) ≡ m
    ones zero = refl
    ones (suc m) = omega (arith, ones m)

-- no task at or above n is in W, so counting further adds nothing
pub watched_below : (n m W K : ℕ) → W < 2 ^ n → n ≤ m → watched_in m W K ≡ watched_in n W K
unfolding watched_in count_below
watched_below n m W K l h = le_ind (λ (k : ℕ). watched_in k W K ≡ watched_in n W K) refl (λ k a e. rw (bit_above n k W l a, add-zero) e) m h

-- a task below the width is joined
pub with_in_lem : (w K j : ℕ) → j < w → with_in w K j ≡ with K j
unfolding with_in
with_in_lem w K j h = rw lt-ltb

-- of fewer tasks than a mask has bits there are 2 to the power n lists, and the full one is the last of them
pub lists_of_lem : (n : ℕ) → n < mask_bits → lists_of n ≡ 2 ^ n
unfolding lists_of
lists_of_lem n h = rw lt-ltb

pub no_lists : (n : ℕ) → mask_bits ≤ n → lists_of n ≡ 0
unfolding lists_of
no_lists n h = rw le-ltb

pub full_of_lem : (n : ℕ) → n < mask_bits → full_of n ≡ full n
unfolding full_of
full_of_lem n h = rw lt-ltb

pub full_lists : (n : ℕ) → lists_of n - 1 ≡ full_of n
unfolding lists_of full_of full
full_lists n = by_test (ltb n mask_bits) (λ w. rw w) (λ w. rw w)
