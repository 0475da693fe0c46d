-- The load in the code: summed task by task, and cast where it is not below zero. Assumes nothing.
use Rattle.model.proofs.Basics.{◌≡◌, sym, ◌∙◌, List, ℕ, suc, ◌^◌, ◌≤◌, arith, T, ℤ, pos, ◌+ℤ◌, +ℤ_idr, nat_abs, get_or}
use Rattle.model.specs.{bit, max_tasks}
use Rattle.model.proofs.Tools.SignedSums.{SumBelow}
use mir.Syntax.{w16, w32}
use mir.Val.{Fits}
use lib.Signed.{non_neg, nat_abs-le, pos-nat_abs}
use Rattle.kernel_list.specs.Lists.{sum_of_below, sum_of}

-- the sum in the code, of the end load and the changes of the open tasks below t
abbrev pub LoadBelow : ℕ → List ℤ → ℕ → ℕ → ℤ → Type 0
LoadBelow end changes K t sum = SumBelow w16 w32 (sum_of_below end changes K) 65535 t sum

-- a task that is in the list, and one that is not
module _ (end : ℕ) (changes : List ℤ) (K t : ℕ) where
  pub task_open : bit K t ≡ 1 → sum_of_below end changes K (suc t) ≡ sum_of_below end changes K t +ℤ get_or changes t (pos 0)
  task_open b = rw b

  pub task_done : bit K t ≡ 0 → sum_of_below end changes K (suc t) ≡ sum_of_below end changes K t
  task_done b = rw b (+ℤ_idr (sum_of_below end changes K t))

-- a sum that is the same further on
pub sum_on : (end : ℕ) (changes : List ℤ) (K : ℕ) {u t : ℕ} {sum : ℤ} → LoadBelow end changes K u sum → u ≤ t
    → sum_of_below end changes K t ≡ sum_of_below end changes K u → LoadBelow end changes K t sum
sum_on end changes K h l e = record { is = h.is ∙ sym e; bound = rw e (omega (arith, h.bound, l)) }

-- all are summed, and the sum is not below zero
module _ (end : ℕ) (changes : List ℤ) (K : ℕ) {sum : ℤ} (h : LoadBelow end changes K max_tasks sum) (n : T (non_neg (sum_of end changes K))) where
  all_tasks : sum ≡ sum_of end changes K
  unfolding sum_of
  all_tasks = h.is

  pub cast_fits : T (non_neg sum) × Fits w32 (nat_abs sum)
  cast_fits = (rw all_tasks n, record { fits = omega (arith, nat_abs-le sum {H = 2 ^ 31} (rw h.is (omega (arith, h.bound)))) })

  pub cast_is : pos (nat_abs sum) ≡ sum_of end changes K
  cast_is = rw all_tasks (pos-nat_abs (sum_of end changes K) n)
