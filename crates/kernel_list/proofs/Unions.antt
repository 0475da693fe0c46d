-- The union of what the tasks of a list have, task by task, and what is in it; and masks that the code tells by: whether one has all of another, and one without another.
-- Assumes nothing.
use Rattle.model.proofs.Basics.{◌≡◌, ap, ◌∙◌, Bool, not, ◌&&◌, ◌||◌, List, ℕ, zero, suc, ◌+◌, ◌-◌, ◌/◌, ◌^◌, ◌<◌, min, arith, eqb, get_or}
use Rattle.model.proofs.Basics.{eqb-true, eq-eqb, add-one}
use Rattle.model.specs.{all_below, any_below, bit, member, max_tasks}
use Rattle.model.proofs.Tools.Tests.{by_test, same_test, all_at, all_below_lem, implied}
use Rattle.model.proofs.TaskLists.Masks.{bit_zero, bit_suc, bit_lt, bit_none, by_bit, same_members, member_bit, bit_member}
use Rattle.tasklist.proofs.Shifts.{bit_and_lem}
use mathlib.Core.Bool.{or-false}
use Prim.Native.Nat.{max}
use lib.Bits.{bit_and, bit_or, or_shr, or_step, and_le_r}
use native.Mathlib.Nat.{lt_of_le_of_lt}
use Rattle.kernel_list.specs.Lists.{union_below, union_of}

-- ---- task by task

-- a walk takes a task of the list, and passes over the others
pub walk_in : (xs : List ℕ) (K n : ℕ) {all : ℕ} → all ≡ union_below xs K n → bit K n ≡ 1 → bit_or all (get_or xs n 0) ≡ union_below xs K (n + 1)
walk_in xs K n h b = rw (add-one, b, h)

pub not_in : (xs : List ℕ) (K n : ℕ) → bit K n ≡ 0 → union_below xs K (suc n) ≡ union_below xs K n
not_in xs K n b = rw b

pub all_joined : (xs : List ℕ) (K n : ℕ) {all : ℕ} → all ≡ union_below xs K n → n ≡ max_tasks → all ≡ union_of xs K
unfolding union_of
all_joined xs K n h e = h ∙ ap (union_below xs K) e

-- ---- its members

bit_or_lem : (J K j : ℕ) → bit (bit_or J K) j ≡ max (bit J j) (bit K j)
unfolding bit
bit_or_lem J K j = rw or_shr (omega (arith, or_step (J / 2 ^ j) (K / 2 ^ j)))

or_member : (J K j : ℕ) → member (bit_or J K) j ≡ (member J j || member K j)
or_member J K j = rw (bit_or_lem J K j) (by_bit J j
    (λ w. let m : max 0 (bit K j) ≡ bit K j = omega arith in rw (w, m))
    (λ w. let m : max 1 (bit K j) ≡ 1 = omega (arith, bit_lt K j) in rw (w, m)))

pub union_member : (xs : List ℕ) (K n j : ℕ) → member (union_below xs K n) j ≡ any_below n (λ t. member K t && member (get_or xs t 0) j)
union_member xs K zero j = rw bit_none
union_member xs K (suc n) j = by_test (member K n)
    (λ w. rw w (or_member (union_below xs K n) (get_or xs n 0) j ∙ ap (λ (b : Bool). b || member (get_or xs n 0) j) (union_member xs K n j)))
    (λ w. rw (w, or-false) (union_member xs K n j))

-- ---- masks of w bits

-- K & R == R
pub has_all_of : (w K R : ℕ) → R < 2 ^ w → eqb (bit_and K R) R ≡ all_below w (λ j. not (member R j) || member K j)
has_all_of w K R l = same_test _ _
    (λ e. all_below_lem w _ (λ j m. (implied (member R j) (member K j)).1 (λ a.
    let b : bit K j ≡ 1 = omega (arith, bit_and_lem K R j, ap (λ (x : ℕ). bit x j) (eqb-true (bit_and K R) R e), member_bit R j a, bit_lt K j) in bit_member K j b)))
    (λ e. eq-eqb _ _ (same_members w _ R (lt_of_le_of_lt (and_le_r K R) l) l (λ j m. bit_and_lem K R j ∙ by_bit R j
    (λ z. omega (arith, z))
    (λ o. omega (arith, o, member_bit K j ((implied (member R j) (member K j)).0 (all_at w _ e j m) (bit_member R j o)))))))

-- !R
bit_not : (w R j : ℕ) → R < 2 ^ w → j < w → bit (2 ^ w - 1 - R) j ≡ 1 - bit R j
bit_not zero R j l m = absurd (omega arith)
bit_not (suc w) R zero l m = omega (arith, bit_zero (2 ^ suc w - 1 - R), bit_zero R)
bit_not (suc w) R (suc j) l m =
    let half : (2 ^ suc w - 1 - R) / 2 ≡ 2 ^ w - 1 - R / 2 = omega arith in
    rw (bit_suc, half, bit_suc) (bit_not w (R / 2) j (omega arith) (omega arith))

-- K & !R
pub without_all : (w K R j : ℕ) → R < 2 ^ w → j < w → member (bit_and K (2 ^ w - 1 - R)) j ≡ (member K j && not (member R j))
without_all w K R j l m = rw (bit_and_lem, bit_not w R j l m) (by_bit R j
    (λ z. let e : min (bit K j) 1 ≡ bit K j = omega (arith, bit_lt K j) in rw (z, e) (by_test (member K j) (λ b. rw b) (λ b. rw b)))
    (λ o. let e : min (bit K j) 0 ≡ 0 = omega arith in rw (o, e) (by_test (member K j) (λ b. rw b) (λ b. rw b))))
