-- A sheet whose layout is right: 10 to 13 do not apply (01, Numbers a call can answer with). Assumes nothing.
use Rattle.std.specs.Prelude.{◌≡◌, false, List, ℕ}
use Rattle.model.specs.SheetLayout.{layout_of}
use Rattle.model.specs.Faults.{too_short, wrong_kind, some_wrong_entries, wrong_places}

pub record LaidOut (b : List ℕ) : Type 0 where
  pub long : too_short b ≡ false
  pub kind : wrong_kind (layout_of b) b ≡ false
  pub entries : some_wrong_entries (layout_of b) b ≡ false
  pub places : wrong_places (layout_of b) b ≡ false
