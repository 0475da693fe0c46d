-- What the sheet's tests that remain answer, once the first of them were passed. Assumes nothing.
use Rattle.model.proofs.Basics.{◌≡◌, List, ℕ, drop}
use Rattle.model.specs.{accepted, refuse_first, decode, sheet_tests, unless_fault, Counts, read_sheet}
use Rattle.model.specs.Answer.{Answer}
use Rattle.sheet.specs.Layouts.{LaidOut}

abbrev pub answer : ℕ → ℕ → Answer Counts
answer n p = accepted (record { tasks = n; points = p })

-- all but the first k
abbrev pub remaining : ℕ → List ℕ → Answer Counts
remaining k b = refuse_first (drop k (sheet_tests b)) (answer (decode b).tasks (decode b).points)

-- 10 to 13 are the first four
pub laid_out : (b : List ℕ) → LaidOut b → read_sheet b ≡ remaining 4 b
unfolding read_sheet unless_fault sheet_tests
laid_out b h = rw (h.long, h.kind, h.entries, h.places)
