-- The output of the print program, from the bytes of a sheet (01, Sheet A and its neighbours, which every definition here is from). Assumes nothing.
use Rattle.std.specs.Prelude.{true, false, List, [], ◌∷◌, ◌++◌, map, ℕ, zero, suc, ◌+◌, ◌/◌, ◌%◌, ltb, length, take}
use Prim.Native.Char.{code}
use Prim.Native.String.{String, [] as noText, ◌∷◌ as ◌then◌}
use Rattle.model.specs.Folds.{map_below}
use Rattle.model.specs.TaskList.{mask_of}
use Rattle.model.specs.Sheet.{Sheet}
use Rattle.model.specs.Plans.{Plan, plan_cost}
use Rattle.model.specs.Bytes.{overwrite_at, written_at}
use Rattle.model.specs.Answer.{Answer, refused, accepted}
use Rattle.model.specs.SheetLayout.{decode}
use Rattle.model.specs.PlanLayout.{max_plan_doors, plan_length}
use Rattle.model.specs.Planning.{plan_for, plan}

-- ---- text

-- the bytes of a text of ASCII characters
abbrev pub ascii : String → List ℕ
ascii noText = []
ascii (◌then◌ c s) = code c ∷ ascii s

-- a number in decimal, by at most k divisions; n of them are enough
abbrev pub decimal_by : ℕ → ℕ → List ℕ
decimal_by zero n = (48 + n) ∷ []
decimal_by (suc k) n = elim (ltb n 10) [ true ↦ (48 + n) ∷ [] | false ↦ decimal_by k (n / 10) ++ ((48 + n % 10) ∷ []) ]

-- a number in decimal
unfoldable pub decimal : ℕ → List ℕ
decimal n = decimal_by n n

-- each line ends with byte 10
abbrev pub line_end : List ℕ
line_end = 10 ∷ []

-- ---- lines

-- `refused` and the number
unfoldable pub refusal_line : ℕ → List ℕ
refusal_line n = ascii "refused " ++ decimal n ++ line_end

-- a step; `open` is the list before the step
unfoldable pub step_line : ℕ → ℕ → ℕ → List ℕ
step_line door task K = ascii "door " ++ decimal door ++ ascii " task " ++ decimal task ++ ascii " open " ++ decimal K ++ line_end

-- a line for each step
abbrev pub step_lines : Sheet → List ℕ → List ℕ
step_lines S [] = []
step_lines S (d ∷ ds) = step_line d (S.task d) (mask_of (map S.task (d ∷ ds))) ++ step_lines S ds

-- the cost, the start's number and the steps
unfoldable pub plan_lines : Sheet → Plan → List ℕ
plan_lines S x = ascii "cost " ++ decimal (plan_cost S x) ++ line_end ++ ascii "start " ++ decimal x.start ++ line_end ++ step_lines S x.doors

-- one line for a refusal, or else those of the plan
abbrev pub answer_lines : Sheet → Answer Plan → List ℕ
answer_lines S (refused n) = refusal_line n
answer_lines S (accepted x) = plan_lines S x

-- what is printed for the sheet b, planned with so many cells and with room for any plan
unfoldable pub printed_with : ℕ → List ℕ → List ℕ
printed_with cells b = answer_lines (decode b) (plan_for b cells (plan_length max_plan_doors))

-- ---- the call, which is lent cells and a buffer

-- how many bytes of the buffer were written, and buffer and cells afterwards
pub record Printed : Type 0 where
  pub written : ℕ
  pub bytes : List ℕ
  pub cells : List ℕ

-- the text stands at the front of the buffer if it fits, and else nothing is written; the cells are as planning leaves them, either way
unfoldable pub print : List ℕ → List ℕ → List ℕ → Printed
print b cells buffer = record {
  written = written_at 0 (printed_with (length cells) b) buffer;
  bytes = overwrite_at 0 (printed_with (length cells) b) buffer;
  cells = (plan b cells (map_below (plan_length max_plan_doors) (λ i. 0))).cells;
}

-- ---- the program

-- it reads at most one byte more than the longest sheet has: no longer input is printed otherwise (`cut_input`)
abbrev pub print_input : ℕ
print_input = 9639

-- it plans with this many cells
abbrev pub print_cells : ℕ
print_cells = 4096

-- what is printed for what stands on standard input
unfoldable pub printed : List ℕ → List ℕ
printed input = printed_with print_cells (take print_input input)
