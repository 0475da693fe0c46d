-- A task that joins the list: the load grows by its change. The load of a list that a mask holds is a sum of so few changes, each of 16
-- bits, that it fits 64 bits, so the code's sum stays the load. Assumes nothing.
use Rattle.model.proofs.Basics.{◌≡◌, refl, sym, ap, ap₂, ◌∙◌, ⊎_elim, cond, ℕ, zero, suc, ◌+◌, ◌*◌, ◌^◌, ◌≤◌, ◌<◌, arith, eqb, ℤ, pos, negsuc, ◌+ℤ◌}
use Rattle.model.proofs.Basics.{nat_abs}
use Rattle.model.specs.{bit, member, with, load_below, load, mask_bits}
use Rattle.model.specs.Sheet.{Sheet}
use Rattle.model.proofs.Tools.Tests.{eq_or_lt}
use Rattle.model.proofs.Tools.SignedSums.{back, widened_fits}
use Rattle.model.proofs.TaskLists.Masks.{bit_none, with_same, with_other}
use Rattle.model.proofs.Theory.Loads.{load_magnitude}
use Rattle.model.proofs.Theory.Bounds.{max_change}
use Rattle.model.proofs.Bytes.Widths.{Widths}
use lib.IntN.{+ℤ_idr, +ℤ_assoc, +ℤ_comm}
use lib.Signed.{mag, nat_abs-le}
use Rattle.std.proofs.lemmas.Int.{ints}
use mir.Syntax.{w16, w64}
use mir.Val.{SFits, to_z, of_z}
use mir.ValLaws.{to_z-of_z}

-- ---- the load of the definition

-- with nothing open the end load is left
pub load_none : (S : Sheet) → load S 0 ≡ pos S.end_load
unfolding load
load_none S = none S.tasks
  where
    none : (n : ℕ) → load_below S 0 n ≡ pos S.end_load
    none zero = refl
    none (suc n) = rw (bit_none n) (+ℤ_idr (load_below S 0 n) ∙ none n)

module _ (S : Sheet) (K t : ℕ) (new : bit K t ≡ 0) where
  -- what another task n adds is as before
  other : {y z : ℤ} (n : ℕ) → (n ≡ t → ⊥) → y ≡ z
      → y +ℤ cond (member (with K t) n) (S.change n) (pos 0) ≡ z +ℤ cond (member K n) (S.change n) (pos 0)
  other n d e = ap₂ (λ (y : ℤ) (b : ℕ). y +ℤ cond (eqb b 1) (S.change n) (pos 0)) e (with_other K t n d)

  -- up to task t its change is not summed
  before : (n : ℕ) → n ≤ t → load_below S (with K t) n ≡ load_below S K n
  before zero l = refl
  before (suc n) l = other n (omega arith) (before n (omega arith))

  swap : (a x y : ℤ) → (a +ℤ x) +ℤ y ≡ (a +ℤ y) +ℤ x
  swap a x y = +ℤ_assoc a x y ∙ ap (λ (z : ℤ). a +ℤ z) (+ℤ_comm x y) ∙ sym (+ℤ_assoc a y x)

  -- from there on it is
  behind : (n : ℕ) → t < n → load_below S (with K t) n ≡ load_below S K n +ℤ S.change t
  behind zero l = absurd (omega arith)
  behind (suc n) l = ⊎_elim
      (λ (w : t ≡ n). rw (← w, with_same K t, new, before t (omega arith), +ℤ_idr (load_below S K t)))
      (λ (w : t < n). other n (omega arith) (behind n w) ∙ swap (load_below S K n) (S.change t) (cond (member K n) (S.change n) (pos 0)))
      (eq_or_lt t n l)

  -- the task joins with its change
  load_with : t < S.tasks → load S (with K t) ≡ load S K +ℤ S.change t
  unfolding load
  load_with l = behind S.tasks l

-- ---- the load in the code

mag_le : (z : ℤ) → mag z ≤ nat_abs z
mag_le (pos n) = omega arith
mag_le (negsuc n) = omega arith

-- the load of any list that a mask holds
pub load_fits : (S : Sheet) → Widths S → S.tasks ≤ mask_bits → (K : ℕ) → mag (load S K) < 2 ^ 63
load_fits S W n K = omega (
  arith,
  mag_le (load S K),
  load_magnitude S K max_change (2 ^ 15) (2 ^ 32) (λ j l. omega (arith, W.change_up j))
      (λ j l. W.change_down j) (omega (arith, W.end_load)) (omega arith),
)

abs_sum : (y z : ℤ) → nat_abs (y +ℤ z) ≤ nat_abs y + nat_abs z
abs_sum y z = omega (arith, ints)

-- `sum` is the load of K, and no larger than the end load and n changes can make it
pub record HoldsLoad (S : Sheet) (K n : ℕ) (sum : ℤ) : Type 0 where
  pub is : sum ≡ load S K
  pub small : nat_abs sum ≤ 2 ^ 16 + n * 2 ^ 15

-- `sum` and the change x together
abbrev pub grown : ℤ → ℤ → ℤ
grown sum x = sum +ℤ to_z w64 (of_z w64 (to_z w16 (of_z w16 x)))

-- x is the change of a task t that joins the list
module _ {S : Sheet} {K n : ℕ} {sum : ℤ} (h : HoldsLoad S K n sum) (few : n < mask_bits) {t : ℕ} (l : t < S.tasks) (new : bit K t ≡ 0)
    {x : ℤ} (f : mag x < 2 ^ 15) (e : x ≡ S.change t) where
  grown_sum : grown sum x ≡ sum +ℤ x
  grown_sum = ap (λ (y : ℤ). sum +ℤ y) (to_z-of_z w64 _ (widened_fits w16 x f w64 (omega (arith, f))) ∙ back w16 x f)

  grown_small : nat_abs (grown sum x) ≤ 2 ^ 16 + (n + 1) * 2 ^ 15
  grown_small = rw grown_sum (omega (arith, abs_sum sum x, h.small, nat_abs-le x f))

  pub join_fits : SFits w64 (grown sum x)
  join_fits = record { sfits = omega (arith, mag_le (grown sum x), grown_small, few) }

  pub join_load : HoldsLoad S (with K t) (n + 1) (to_z w64 (of_z w64 (grown sum x)))
  join_load =
      let same : to_z w64 (of_z w64 (grown sum x)) ≡ grown sum x = to_z-of_z w64 _ join_fits in
      record { is = same ∙ grown_sum ∙ ap₂ ◌+ℤ◌ h.is e ∙ sym (load_with S K t new l); small = rw same grown_small }
