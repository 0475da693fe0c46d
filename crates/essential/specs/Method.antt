-- How 16 is looked for: the load from one list to the next, and essential lists with the senders of each task at hand (02, Req 03). Assumes nothing.
use Rattle.std.specs.Prelude.{◌≡◌, Bool, not, ◌||◌, List, ℕ, zero, suc, ◌^◌, ◌<◌, ℤ, pos, ◌+ℤ◌, ◌-ℤ◌, length, get_or}
use Rattle.std.specs.Int.Signed.{mag}
use Rattle.model.specs.Folds.{all_below}
use Rattle.model.specs.TaskList.{member}
use Rattle.model.specs.Sheet.{Sheet}
use Rattle.model.specs.SheetLayout.{max_tasks}
use Rattle.model.specs.Method.{mask_bits, meets}

-- the changes of the tasks below n
abbrev pub changes_below : Sheet → ℕ → ℤ
changes_below S zero = pos 0
changes_below S (suc n) = changes_below S n +ℤ S.change n

-- by how much the load grows from a list to the next, whose lowest task is t: t joins, and all tasks below it leave
unfoldable pub step : Sheet → ℕ → ℤ
step S t = S.change t -ℤ changes_below S t

-- the array in the code has the step of each task, in 32 bits, and a change has 16
pub record Steps (S : Sheet) (steps : List ℤ) : Type 0 where
  pub size : length steps ≡ max_tasks
  pub each : (t : ℕ) → t < S.tasks → get_or steps t (pos 0) ≡ step S t
  pub fits : (t : ℕ) → t < S.tasks → mag (step S t) < 2 ^ 31
  pub small : (t : ℕ) → t < S.tasks → mag (S.change t) < 2 ^ 15

-- no task below n that K lacks has a sender in K, with the senders of each task at hand
abbrev pub closed_by : List ℕ → ℕ → ℕ → Bool
closed_by senders n K = all_below n (λ t. member K t || not (meets mask_bits (get_or senders t 0) K))
