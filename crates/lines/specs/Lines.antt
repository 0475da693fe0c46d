-- The parts of the print program's lines, and how they are laid into a buffer (01, Sheet A and its neighbours). Assumes nothing.
use Rattle.std.specs.Prelude.{◌≡◌, List, ◌++◌, ℕ, ◌+◌, ◌*◌, ◌≤◌, length}
use Rattle.model.specs.Bytes.{overwrite_at}
use Rattle.model.specs.PlanLayout.{max_plan_doors}
use Rattle.model.specs.Printing.{ascii, decimal, line_end}

-- a label and a number in decimal
unfoldable pub labelled : List ℕ → ℕ → List ℕ
labelled label n = label ++ decimal n

-- and the end of the line behind them
unfoldable pub line_of : List ℕ → ℕ → List ℕ
line_of label n = labelled label n ++ line_end

-- the lines of a plan's cost and start
unfoldable pub head_lines : ℕ → ℕ → List ℕ
head_lines cost start = line_of (ascii "cost ") cost ++ line_of (ascii "start ") start

-- a number of 64 bits has at most this many digits
abbrev pub max_digits : ℕ
max_digits = 20

-- and the lines of cost and start at most this many bytes
abbrev pub max_head : ℕ
max_head = (5 + max_digits + 1) + (6 + max_digits + 1)

-- and the line of a step, with three numbers, at most this many bytes
abbrev pub max_step : ℕ
max_step = 5 + 6 + 6 + 3 * max_digits + 1

-- and all that is printed for a sheet, the lines of cost, start and twelve steps, at most this many
abbrev pub max_text : ℕ
max_text = max_head + max_step * max_plan_doors

-- the text was laid into the buffer, which was a and is b, from byte `at` to byte `end`
pub record Laid (at : ℕ) (text a b : List ℕ) (end : ℕ) : Type 0 where
  pub ends : end ≡ at + length text
  pub within : end ≤ length a
  pub bytes : b ≡ overwrite_at at text a
