-- A list walked by its lowest task, which is struck off: what is left of it, and that a fold over the tasks passes over those that are not in it. Assumes nothing.
use Rattle.model.proofs.Basics.{◌≡◌, refl, sym, ap, ◌∙◌, ℕ, zero, suc, ◌+◌, ◌-◌, ◌^◌, ◌≤◌, ◌<◌, add-one, arith, ltb, ltb-true, ltb-false, pow_pos}
use Rattle.model.specs.{bit, without, mask_bits, max_tasks}
use Rattle.model.proofs.Tools.Tests.{by_test, by_last}
use Rattle.model.proofs.TaskLists.Masks.{bit_none, bit_le, without_is, without_same, without_other}
use Rattle.model.proofs.TaskLists.Lowest.{task_below, lowest}
use Rattle.kernel_list.specs.Walks.{IsLowest}
use lib.Count.{count_trailing_zeros}

-- the lowest task of K, a word of 32 bits
pub is_lowest : (K : ℕ) → (K ≡ 0 → ⊥) → K < 2 ^ mask_bits → IsLowest K (count_trailing_zeros mask_bits K)
is_lowest K some l = let h = lowest mask_bits K (omega (arith, some)) l in record { task = h.task; none_below = h.none_below }

pub fewer : {K t : ℕ} → IsLowest K t → without K t < K
fewer {K} {t} low = omega (arith, without_is K t low.task, bit_le t K low.task, pow_pos t)

-- of K the tasks from u on are left
pub record Left (K left u : ℕ) : Type 0 where
  pub few : u ≤ max_tasks
  pub part : left ≤ K
  pub below : (j : ℕ) → j < u → bit left j ≡ 0
  pub above : (j : ℕ) → u ≤ j → bit left j ≡ bit K j

pub all_left : (K : ℕ) → Left K K 0
all_left K = record { few = omega arith; part = omega arith; below = λ j l. absurd (omega arith); above = λ j l. refl }

-- f of the tasks below n, which one that is not in K does not change, is the same across tasks that are not in K
gap : {A : Type 0} (f : ℕ → A) (K u d : ℕ) → ((j : ℕ) → bit K j ≡ 0 → f (suc j) ≡ f j) → ((j : ℕ) → u ≤ j → j < u + d → bit K j ≡ 0) → f (u + d) ≡ f u
gap f K u zero same none = ap f (omega arith)
gap f K u (suc d) same none =
    let e : u + suc d ≡ suc (u + d) = omega arith in
    ap f e ∙ same (u + d) (none (u + d) (omega arith) (omega arith)) ∙ gap f K u d same (λ j l m. none j l (omega arith))

module _ {K left u : ℕ} (h : Left K left u) (list : K < 2 ^ max_tasks) where
  -- t is the lowest that is left
  module _ {t : ℕ} (low : IsLowest left t) where
    pub not_passed : u ≤ t
    not_passed = by_test (ltb t u) (λ w. absurd (omega (arith, low.task, h.below t (ltb-true t u w)))) (ltb-false t u)

    pub in_list : bit K t ≡ 1
    in_list = sym (h.above t not_passed) ∙ low.task

    pub task_in : t < max_tasks
    task_in = task_below max_tasks K t list in_list

    pub passed : {A : Type 0} (f : ℕ → A) → ((j : ℕ) → bit K j ≡ 0 → f (suc j) ≡ f j) → f t ≡ f u
    passed f same =
        let e : u + (t - u) ≡ t = omega (arith, not_passed) in
        sym (ap f e) ∙ gap f K u (t - u) same (λ j l m. sym (h.above j l) ∙ low.none_below j (omega (arith, m, e)))

    pub one_less : Left K (without left t) (t + 1)
    one_less = rw add-one (record {
      few = omega (arith, task_in);
      part = omega (arith, fewer low, h.part);
      below = λ j l. by_last j t l (λ e. ap (bit (without left t)) e ∙ without_same left t) (λ m. without_other left t j (λ z. omega (arith, m, z)) ∙ low.none_below j m);
      above = λ j l. without_other left t j (λ z. omega (arith, l, z)) ∙ h.above j (omega (arith, l, not_passed));
    })

  -- nothing is left
  pub none_left : left ≡ 0 → {A : Type 0} (f : ℕ → A) → ((j : ℕ) → bit K j ≡ 0 → f (suc j) ≡ f j) → f max_tasks ≡ f u
  none_left e f same =
      let q : u + (max_tasks - u) ≡ max_tasks = omega (arith, h.few) in
      sym (ap f q) ∙ gap f K u (max_tasks - u) same (λ j l m. sym (h.above j l) ∙ ap (λ (x : ℕ). bit x j) e ∙ bit_none j)
