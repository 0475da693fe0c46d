-- The steps in the code, one task at a time, in 32 bits. Assumes nothing.
use Rattle.model.proofs.Basics.{◌≡◌, ap, ap₂, ◌∙◌, List, ℕ, ◌+◌, ◌^◌, ◌<◌, arith, ℤ, pos, ◌+ℤ◌, mag, length, get_or, set, replicate}
use Rattle.model.proofs.Basics.{length-set, length-replicate, get_or-set_same, get_or-set_other, to_z, of_z, SFits, to_z-of_z}
use Rattle.model.specs.{max_tasks}
use Rattle.model.specs.Sheet.{Sheet}
use Rattle.model.proofs.Tools.Tests.{by_last}
use Rattle.model.proofs.Tools.SignedSums.{SumBelow, widened, no_sum, next_sum, mag_sub}
use lib.IntN.{◌-ℤ◌}
use mir.Syntax.{w16, w32}
use Rattle.essential.specs.Method.{changes_below, step, Steps}

-- the steps of the tasks below t, and the sum of their changes
pub record Making (S : Sheet) (steps : List ℤ) (below : ℤ) (t : ℕ) : Type 0 where
  pub size : length steps ≡ max_tasks
  pub each : (j : ℕ) → j < t → get_or steps j (pos 0) ≡ step S j
  pub fits : (j : ℕ) → j < t → mag (step S j) < 2 ^ 31
  pub small : (j : ℕ) → j < t → mag (S.change j) < 2 ^ 15
  pub sum : SumBelow w16 w32 (changes_below S) 0 t below

pub none_made : (S : Sheet) → Making S (replicate max_tasks (pos 0)) (to_z w32 0) 0
none_made S = record {
  size = length-replicate max_tasks (pos 0);
  each = λ j l. absurd (omega arith);
  fits = λ j l. absurd (omega arith);
  small = λ j l. absurd (omega arith);
  sum = no_sum 0 (λ i. pos 0) (omega arith) (omega arith);
}

module _ {S : Sheet} {steps : List ℤ} {below : ℤ} {t : ℕ} (h : Making S steps below t) (x : ℤ) (f : mag x < 2 ^ 15) (e : x ≡ S.change t) (l : t < max_tasks) where
  -- what the code stores
  abbrev stored : ℤ
  stored = to_z w32 (of_z w32 (to_z w16 (of_z w16 x))) -ℤ below

  is_step : stored ≡ step S t
  unfolding step
  is_step = ap₂ ◌-ℤ◌ (widened w16 x f w32 (omega (arith, f)) ∙ e) h.sum.is

  small_step : mag (step S t) < 2 ^ 31
  unfolding step
  small_step = omega (arith, mag_sub (S.change t) (changes_below S t), h.sum.bound, ap mag e, f)

  pub step_fits : SFits w32 stored
  step_fits = rw is_step (record { sfits = small_step })

  pub one_made : {steps' : List ℤ} {below' : ℤ} → steps' ≡ set steps t (to_z w32 (of_z w32 stored))
      → below' ≡ to_z w32 (of_z w32 (below +ℤ to_z w32 (of_z w32 (to_z w16 (of_z w16 x))))) → Making S steps' below' (t + 1)
  one_made p q = rw (p, q) (record {
    size = length-set steps t _ ∙ h.size;
    each = λ j m. by_last j t (omega arith)
        (λ w. rw w (get_or-set_same steps t _ (pos 0) (rw h.size l) ∙ to_z-of_z w32 stored step_fits ∙ is_step))
        (λ w. get_or-set_other steps t j _ (pos 0) (λ z. omega arith) ∙ h.each j w);
    fits = λ j m. by_last j t (omega arith) (λ w. rw w small_step) (λ w. h.fits j w);
    small = λ j m. by_last j t (omega arith) (λ w. rw (w, ← e) f) (λ w. h.small j w);
    sum = next_sum h.sum x f (rw e) (omega arith);
  })

pub all_made : {S : Sheet} {steps : List ℤ} {below : ℤ} {t : ℕ} → Making S steps below t → t ≡ S.tasks → Steps S steps
all_made h e = record { size = h.size; each = λ j l. h.each j (omega arith); fits = λ j l. h.fits j (omega arith); small = λ j l. h.small j (omega arith) }
