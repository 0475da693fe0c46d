-- The lists one by one, from the empty one on: the sum is the load of the list, and none so far is essential with a load below zero. Assumes nothing.
use Rattle.model.proofs.Basics.{◌≡◌, refl, sym, ap, ap₂, ◌∙◌, Bool, true, false, ◌&&◌, and-false, and-true, List, ℕ, zero, suc, ◌+◌, ◌-◌, ◌^◌, ◌≤◌, ◌<◌, arith, get_or}
use Rattle.model.proofs.Basics.{ℤ, pos, ◌+ℤ◌, to_z, of_z, SFits, to_z-of_z, to_z_pos, +ℤ_idr, lt_z}
use Rattle.model.specs.{map_below, load_below, load, essential, light_list, too_light, max_tasks, mask_bits, senders_of, InRange}
use Rattle.model.specs.Sheet.{Sheet}
use Rattle.model.proofs.Tools.Searches.{Searched, none_tried, next, none_found, found}
use Rattle.model.proofs.TaskLists.Masks.{bit_none}
use Rattle.model.proofs.TaskLists.Lowest.{Lowest, lowest, task_below}
use lib.Count.{count_trailing_zeros}
use mir.Syntax.{w32}
use Rattle.essential.specs.Method.{step, Steps, closed_by}
use Rattle.essential.proofs.Stepping.{next_load, load_bound}
use Rattle.essential.proofs.Senders.{closed_is}

pub record Looking (S : Sheet) (lists : ℕ) (sum : ℤ) (k : ℕ) : Type 0 where
  pub above : 0 < k
  pub is : sum ≡ load S (k - 1)
  pub none : Searched lists (light_list S) k

-- ---- the empty list: its load is the end load, and it is not essential

empty_below : (S : Sheet) (n : ℕ) → load_below S 0 n ≡ pos S.end_load
empty_below S zero = refl
empty_below S (suc n) = rw bit_none (+ℤ_idr (load_below S 0 n) ∙ empty_below S n)

pub empty_first : (S : Sheet) {lists e : ℕ} → e ≡ S.end_load → e < 2 ^ 31 → 0 < lists → Looking S lists (to_z w32 e) 1
unfolding load light_list essential
empty_first S {lists} {e} q f l = record {
  above = omega arith;
  is = to_z_pos w32 e f ∙ ap pos q ∙ sym (empty_below S S.tasks);
  none = next (record { opposite = none_tried }) l refl refl;
}

-- ---- the next list

module _ {S : Sheet} {steps : List ℤ} {lists : ℕ} {sum : ℤ} {k : ℕ} (h : Looking S lists sum k) (p : Steps S steps) (few : S.tasks ≤ max_tasks) (end : S.end_load < 2 ^ 16)
    (n : lists ≡ 2 ^ S.tasks) (l : k < lists) (fit : k < 2 ^ mask_bits) where
  -- its lowest task
  abbrev low : ℕ
  low = count_trailing_zeros mask_bits k

  is_low : Lowest k low
  is_low = lowest mask_bits k h.above fit

  low_below : low < S.tasks
  low_below = task_below S.tasks k low (rw n at l) is_low.task

  pub in_array : low < max_tasks
  in_array = omega (arith, low_below)

  -- the sum with the step is its load
  abbrev total : ℤ
  total = sum +ℤ to_z w32 (of_z w32 (get_or steps low (pos 0)))

  from_before : (k : ℕ) → 0 < k → Lowest k low → load S (k - 1) +ℤ step S low ≡ load S k
  from_before zero a s = absurd (omega arith)
  from_before (suc K) a s = let e : suc K - 1 ≡ K = omega arith in rw e (sym (next_load S K low s low_below))

  is_load : total ≡ load S k
  is_load =
      ap₂ ◌+ℤ◌ h.is (rw (p.each low low_below) (to_z-of_z w32 (step S low) (record { sfits = p.fits low low_below })))
      ∙ from_before k h.above is_low

  pub total_fits : SFits w32 total
  total_fits = rw is_load (record { sfits = omega (arith, load_bound S k p.small) })

  held : to_z w32 (of_z w32 total) ≡ load S k
  held = to_z-of_z w32 total total_fits ∙ is_load

  passed_by : light_list S k ≡ false → Looking S lists (to_z w32 (of_z w32 total)) (k + 1)
  passed_by e = record {
    above = omega arith;
    is = let q : k + 1 - 1 ≡ k = omega arith in rw q held;
    none = next h.none l refl e;
  }

  -- its load is not below zero
  pub heavy : lt_z (to_z w32 (of_z w32 total)) (pos 0) ≡ false → Looking S lists (to_z w32 (of_z w32 total)) (k + 1)
  unfolding light_list
  heavy e = passed_by (ap (λ b. essential S k && b) (ap (λ z. lt_z z (pos 0)) (sym held) ∙ e) ∙ and-false (essential S k))

  -- it is below zero, and c is what the code finds of its senders
  module _ (R : InRange S) (e : lt_z (to_z w32 (of_z w32 total)) (pos 0) ≡ true) {c : Bool} {m have : ℕ} {ws : List ℕ} (q : c ≡ closed_by ws m k)
      (w : ws ≡ map_below have (senders_of S)) (o : m ≡ S.tasks) (all : S.tasks ≤ have) where
    is_light : c ≡ light_list S k
    unfolding light_list
    is_light =
        q ∙ rw (w, o) (closed_is S R few k have all (λ z. omega (arith, h.above)))
        ∙ sym (ap (λ b. essential S k && b) (ap (λ z. lt_z z (pos 0)) (sym held) ∙ e) ∙ and-true (essential S k))

    pub light : c ≡ true → true ≡ too_light S
    unfolding too_light
    light t = found (light_list S) l n is_light t

    pub not_essential : c ≡ false → Looking S lists (to_z w32 (of_z w32 total)) (k + 1)
    not_essential t = passed_by (sym is_light ∙ t)

pub all_looked_at : {S : Sheet} {lists : ℕ} {sum : ℤ} {k : ℕ} → Looking S lists sum k → lists ≡ 2 ^ S.tasks → lists ≤ k → false ≡ too_light S
unfolding too_light
all_looked_at h n l = none_found h.none l n
