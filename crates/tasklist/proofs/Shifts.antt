-- The machine's shifts, masks and count of ones, on words of w bits, are the operations on lists: a mask of one bit takes out the task or
-- nothing, and the bits of a masked list are the tasks that are in both. Assumes nothing.
use Rattle.model.proofs.Basics.{◌≡◌, sym, ap, ◌∙◌, ⊎_elim, Bool, true, false, cond, not, ◌&&◌, ℕ, zero, suc, ◌+◌, ◌-◌, ◌*◌, ◌/◌, ◌%◌, ◌^◌}
use Rattle.model.proofs.Basics.{◌≤◌, ◌<◌, min, lt_of_le_of_lt, arith, eqb, ltb, eqb-false, ne_eqb, lt-ltb, le-ltb, ltb-true, ltb-false, not-true}
use Rattle.model.specs.{any_below, sum_below, count_below, bit, member, with, without, watched_in, mask_bits, with_in, lists_of, meets}
use Rattle.model.proofs.Tools.Tests.{by_test, tested, same_test, none_at, one_passes, any_cong}
use Rattle.model.proofs.Tools.Folds.{sum_cong, sum_first}
use Rattle.model.proofs.TaskLists.Masks.{bit_zero, bit_suc, bit_lt, bit_none, bit_cases, member_bit, not_member_bit, counted, bit_above, no_bits, without_none, lists_of_lem, no_lists}
use lib.Arith.{lt-one}
use lib.Pow.{pow-lt, shl_exact}
use lib.Bits.{bit_and, bit_or, and_mask, and_step, and_comm, and_shr, and_le_l, or_add_and, and_high}
use Rattle.std.specs.Int.Bits.{or_zero_r}
use Rattle.std.specs.Option.{SomeIff, unwrap_or}
use Rattle.std.specs.Prelude.{Option, Some, None}
use lib.Count.{ones, ones_step}

-- ---- single bits

-- (K >> j) & 1
pub bit_shifted : (K j : ℕ) → bit_and (K / 2 ^ j) 1 ≡ bit K j
unfolding bit
bit_shifted K j = and_mask (K / 2 ^ j) 1

-- a task from w on is not in the list
pub not_listed : (w K j : ℕ) → K < 2 ^ w → w ≤ j → ltb j w ≡ member K j
not_listed w K j l h = rw (le-ltb, bit_above w j K l h)

-- ---- a task joined, a task struck off

-- 1 << j
pub one_bit : (w j : ℕ) → j < w → 1 * 2 ^ j % 2 ^ w ≡ 2 ^ j
one_bit w j l = omega (arith, shl_exact {a = 1} 1 j w (omega arith) (omega arith))

-- K & (1 << j)
taken_out : (K j : ℕ) → bit_and K (2 ^ j) ≡ bit K j * 2 ^ j
unfolding bit
taken_out K j =
    let next : 1 + j ≡ suc j = omega arith in
    let one : 2 ^ suc j - 2 ^ j ≡ 2 ^ j = omega arith in
    rw (next, one) at (and_high K 1 j)

-- a mask and its complement take a list apart, bit by bit
parity : (a b : ℕ) → a < 2 → b < 2 → min a (1 - b) + min a b ≡ a
parity a b h g = omega arith

doubled : (x y m n K : ℕ) → x + y ≡ K / 2 → m + n ≡ K % 2 → x * 2 + m + (y * 2 + n) ≡ K
doubled x y m n K p q = omega arith

apart : (w K B : ℕ) → K < 2 ^ w → B < 2 ^ w → bit_and K (2 ^ w - 1 - B) + bit_and K B ≡ K
apart zero K B h g = omega (arith, and_le_l K (2 ^ 0 - 1 - B), and_le_l K B)
apart (suc w) K B h g =
    let half : (2 ^ suc w - 1 - B) / 2 ≡ 2 ^ w - 1 - B / 2 = omega arith in
    let odd : (2 ^ suc w - 1 - B) % 2 ≡ 1 - B % 2 = omega arith in
    rw (and_step K (2 ^ suc w - 1 - B), and_step K B, half, odd)
    (doubled _ _ _ _ K (apart w (K / 2) (B / 2) (omega arith) (omega arith)) (parity (K % 2) (B % 2) (omega arith) (omega arith)))

-- K | (1 << j)
pub joined : (w K j : ℕ) → j < w → K < 2 ^ w → bit_or K (1 * 2 ^ j % 2 ^ w) ≡ with_in w K j
unfolding with_in with
joined w K j l h = rw (lt-ltb, one_bit) (⊎_elim
    (λ (e : bit K j ≡ 0). rw e (omega (arith, or_add_and K (2 ^ j), rw e at (taken_out K j))))
    (λ (e : bit K j ≡ 1). rw e (omega (arith, or_add_and K (2 ^ j), rw e at (taken_out K j))))
    (bit_cases K j))

-- a task from w on has no bit
pub not_joined : (w K j : ℕ) → w ≤ j → K ≡ with_in w K j
unfolding with_in
not_joined w K j h = rw le-ltb

-- K & !(1 << j)
pub struck : (w K j : ℕ) → j < w → K < 2 ^ w → bit_and K (2 ^ w - 1 - 1 * 2 ^ j % 2 ^ w) ≡ without K j
unfolding without
struck w K j l h = rw one_bit (omega (arith, apart w K (2 ^ j) h (pow-lt l), taken_out K j))

-- ---- the mask of one task, and 0 where it has no bit

-- what the checked shift gives
pub lone_bit : (j r : ℕ) (o : Option ℕ) → SomeIff o (r < 32) (1 * 2 ^ r % 2 ^ 32) → r ≡ j → unwrap_or o 0 ≡ lists_of j
lone_bit j r None s e = let far : 32 ≤ j = omega (arith, s) in sym (no_lists j far)
lone_bit j r (Some x) s e = rw (← e) (s.1 ∙ one_bit 32 r s.0 ∙ sym (lists_of_lem r s.0))

pub bit_joined : (K j : ℕ) {m : ℕ} → m ≡ lists_of j → K < 2 ^ 32 → bit_or K m ≡ with_in mask_bits K j
bit_joined K j e h = by_test (ltb j 32)
    (λ w. let l = ltb-true j 32 w in ap (bit_or K) (e ∙ lists_of_lem j l ∙ sym (one_bit 32 j l)) ∙ joined 32 K j l h)
    (λ w. let l = ltb-false j 32 w in ap (bit_or K) (e ∙ no_lists j l) ∙ or_zero_r K ∙ not_joined 32 K j l)

pub bit_struck : (K j : ℕ) {m : ℕ} → m ≡ lists_of j → K < 2 ^ 32 → bit_and K (2 ^ 32 - 1 - m) ≡ without K j
bit_struck K j e h = by_test (ltb j 32)
    (λ w. let l = ltb-true j 32 w in
    ap (λ (m : ℕ). bit_and K (2 ^ 32 - 1 - m)) (e ∙ lists_of_lem j l ∙ sym (one_bit 32 j l)) ∙ struck 32 K j l h)
    (λ w. let l = ltb-false j 32 w in
    ap (λ (m : ℕ). bit_and K (2 ^ 32 - 1 - m)) (e ∙ no_lists j l) ∙ and_mask K 32 ∙ omega arith ∙ sym (without_none K j (bit_above 32 j K h l)))

-- ---- tasks in both lists

pub bit_and_lem : (K L j : ℕ) → bit (bit_and K L) j ≡ min (bit K j) (bit L j)
unfolding bit
bit_and_lem K L j = rw and_shr (omega (arith, and_step (K / 2 ^ j) (L / 2 ^ j)))

both : (K L j : ℕ) → member (bit_and K L) j ≡ (member L j && member K j)
both K L j = rw (bit_and_lem K L j) (⊎_elim
    (λ (e : bit L j ≡ 0). let m : min (bit K j) 0 ≡ 0 = omega arith in rw (e, m))
    (λ (e : bit L j ≡ 1). let m : min (bit K j) 1 ≡ bit K j = omega (arith, bit_lt K j) in rw (e, m))
    (bit_cases L j))

-- a list that is not empty has a member
some_member : (w K : ℕ) → K < 2 ^ w → not (eqb K 0) ≡ any_below w (member K)
some_member w K h = same_test _ _
    (λ e. ⊎_elim
    (λ (m : any_below w (member K) ≡ true). m)
    (λ (m : any_below w (member K) ≡ false). absurd (eqb-false K 0 (not-true _ e) (no_bits w K h (λ j l. not_member_bit K j (none_at w _ m j l)))))
    (tested (any_below w (member K))))
    (λ m. let i = one_passes w (member K) m in
    ap not (ne_eqb K 0 (λ (z : K ≡ 0). omega (arith, member_bit K i.0 i.2, ap (λ (x : ℕ). bit x i.0) z, bit_none i.0))))

-- L & K is not zero
pub met : (w L K : ℕ) → L < 2 ^ w → not (eqb (bit_and L K) 0) ≡ meets w L K
unfolding meets
met w L K h =
    some_member w (bit_and L K) (lt_of_le_of_lt (and_le_l L K) h)
    ∙ any_cong w _ _ (λ j l. rw (and_comm L K) (both K L j))

-- ---- counts

-- count_ones(K)
pub ones_sum : (w K : ℕ) → K < 2 ^ w → ones K ≡ sum_below w (bit K)
unfolding ones
ones_sum zero K h = rw (lt-one h)
ones_sum (suc w) K h =
    let rest : sum_below w (λ j. bit K (suc j)) ≡ sum_below w (bit (K / 2)) = sum_cong w _ _ (λ j l. bit_suc K j) in
    omega (arith, ones_step K, ones_sum w (K / 2) (omega arith), sum_first w (bit K), bit_zero K)

-- count_ones(K & W)
pub counted_in : (w W K : ℕ) → K < 2 ^ w → ones (bit_and K W) ≡ watched_in w W K
unfolding watched_in count_below
counted_in w W K h =
    ones_sum w (bit_and K W) (lt_of_le_of_lt (and_le_l K W) h)
    ∙ sum_cong w _ _ (λ j l. sym (counted (bit_and K W) j) ∙ ap (λ (t : Bool). cond t 1 0) (both K W j))
