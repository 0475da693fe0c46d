-- The lowest task of a list, by the machine's count of zeros; and from a list to the next, as numbers: the lowest task of the next joins, and all below it leave. Assumes
-- nothing.
use Rattle.model.proofs.Basics.{◌≡◌, sym, ap, ◌∙◌, ℕ, zero, suc, ◌/◌, ◌%◌, ◌^◌, ◌<◌, arith}
use Rattle.model.specs.{bit}
use Rattle.model.proofs.Tools.Tests.{by_last, not_less}
use Rattle.model.proofs.TaskLists.Masks.{bit_zero, bit_suc, bit_above}
use lib.Count.{count_trailing_zeros}

-- a task of a list of n tasks is below n
pub task_below : (n K t : ℕ) → K < 2 ^ n → bit K t ≡ 1 → t < n
task_below n K t l h = not_less n (suc t) (λ (a : n < suc t). omega (arith, bit_above n t K l (omega arith)))

pub record Lowest (K t : ℕ) : Type 0 where
  pub task : bit K t ≡ 1
  pub none_below : (j : ℕ) → j < t → bit K j ≡ 0

pub lowest : (w K : ℕ) → 0 < K → K < 2 ^ w → Lowest K (count_trailing_zeros w K)
unfolding count_trailing_zeros
lowest zero K p h = absurd (omega arith)
lowest (suc w) K p h = by_last (K % 2) 1 (omega arith)
    (λ w. rw w (record { task = bit_zero K ∙ w; none_below = λ j l. absurd (omega arith) }))
    (λ v. let z : K % 2 ≡ 0 = omega arith in
    let s = lowest w (K / 2) (omega arith) (omega arith) in
    rw z (record { task = bit_suc K (count_trailing_zeros w (K / 2)) ∙ s.task; none_below = below z s }))
  where
    below : K % 2 ≡ 0 → Lowest (K / 2) (count_trailing_zeros w (K / 2)) → (j : ℕ) → j < suc (count_trailing_zeros w (K / 2)) → bit K j ≡ 0
    below z s zero l = bit_zero K ∙ z
    below z s (suc j) l = bit_suc K j ∙ s.none_below j (omega arith)

-- the list before one whose lowest task is t
pub record BeforeLowest (K t : ℕ) : Type 0 where
  pub all_below_lem : (j : ℕ) → j < t → bit K j ≡ 1
  pub not_task : bit K t ≡ 0
  pub same_above : (j : ℕ) → t < j → bit K j ≡ bit (suc K) j

pub before_lowest : (t K : ℕ) → Lowest (suc K) t → BeforeLowest K t
before_lowest zero K h =
    let odd : suc K % 2 ≡ 1 = sym (bit_zero (suc K)) ∙ h.task in
    record { all_below_lem = λ j l. absurd (omega arith); not_task = bit_zero K ∙ omega arith; same_above = same odd }
  where
    same : suc K % 2 ≡ 1 → (j : ℕ) → 0 < j → bit K j ≡ bit (suc K) j
    same o zero l = absurd (omega arith)
    same o (suc j) l =
        let e : K / 2 ≡ suc K / 2 = omega arith in
        bit_suc K j ∙ ap (λ (x : ℕ). bit x j) e ∙ sym (bit_suc (suc K) j)
before_lowest (suc t) K h =
    let even : suc K % 2 ≡ 0 = sym (bit_zero (suc K)) ∙ h.none_below 0 (omega arith) in
    let half : suc K / 2 ≡ suc (K / 2) = omega arith in
    let r = before_lowest t (K / 2) (record {
      task = ap (λ (x : ℕ). bit x t) (sym half) ∙ sym (bit_suc (suc K) t) ∙ h.task;
      none_below = λ j l. ap (λ (x : ℕ). bit x j) (sym half) ∙ sym (bit_suc (suc K) j) ∙ h.none_below (suc j) (omega arith);
    }) in
    record { all_below_lem = below even r; not_task = bit_suc K t ∙ r.not_task; same_above = same half r }
  where
    below : suc K % 2 ≡ 0 → BeforeLowest (K / 2) t → (j : ℕ) → j < suc t → bit K j ≡ 1
    below e r zero l = bit_zero K ∙ omega arith
    below e r (suc j) l = bit_suc K j ∙ r.all_below_lem j (omega arith)

    same : suc K / 2 ≡ suc (K / 2) → BeforeLowest (K / 2) t → (j : ℕ) → suc t < j → bit K j ≡ bit (suc K) j
    same e r zero l = absurd (omega arith)
    same e r (suc j) l = bit_suc K j ∙ r.same_above j (omega arith) ∙ ap (λ (x : ℕ). bit x j) (sym e) ∙ sym (bit_suc (suc K) j)
