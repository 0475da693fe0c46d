-- The choice of the start from the row of the full list (01, Working; 000, (4.11) and (4.12)). Assumes nothing.
use Rattle.std.specs.Prelude.{◌≡◌, true, List, ℕ, ◌≤◌, ◌<◌, length, get_or}
use Rattle.std.proofs.Math.Option.{Option}
use Rattle.model.specs.Folds.{passing_below, first_least}
use Rattle.model.specs.Sheet.{Sheet}
use Rattle.model.specs.SheetLayout.{max_starts}
use Rattle.kernel_sheet.specs.Prepared.{StartsOf}

-- what the row shows at the point of start s
unfoldable pub start_cost : Sheet → List ℕ → ℕ → ℕ
start_cost S row s = get_or row (S.start_point s) 0

-- the first of the starts of least cost
unfoldable pub first_start : Sheet → List ℕ → Option ℕ
first_start S row = first_least (start_cost S row) (passing_below S.starts (λ s. true))

-- what the choice asks: the starts of some sheet, at least one and no more than there is room for, and for each a cell of the row
pub record Startable (S : Sheet) (starts row : List ℕ) : Type 0 where
  pub points : StartsOf S starts
  pub count : length starts ≡ S.starts
  pub one_start : 1 ≤ S.starts
  pub few : S.starts ≤ max_starts
  pub held : (s : ℕ) → s < S.starts → S.start_point s < length row
