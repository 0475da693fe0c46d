-- How the code tests 15 and 17: the tasks of the doors so far as a mask, and striking off with what each task waits for at hand. Assumes nothing.
use Rattle.std.specs.Prelude.{cond, List, ℕ, zero, suc, get_or}
use Rattle.model.specs.Sheet.{Sheet}
use Rattle.model.specs.TaskList.{without}
use Rattle.model.specs.Method.{mask_bits, with_in, meets}

-- the tasks of the doors below n, as a mask
abbrev pub served_below : Sheet → ℕ → ℕ
served_below S zero = 0
served_below S (suc n) = with_in mask_bits (served_below S n) (S.task n)

-- K with task t struck off unless one of W, which it waits for, is in K
unfoldable pub strike_by : ℕ → ℕ → ℕ → ℕ
strike_by W K t = cond (meets mask_bits W K) K (without K t)

-- what is left of K after each of the tasks below n in turn was struck off, where `ws` has what each waits for
abbrev pub pass_by : List ℕ → ℕ → ℕ → ℕ
pass_by ws zero K = K
pass_by ws (suc n) K = strike_by (get_or ws n 0) (pass_by ws n K) n
