-- Powers by rule (02, Req 02): for every number of tasks that a sheet or a plan can have, the number of lists and the full list are what the table of
-- thirteen powers gave. Assumes nothing.
use Rattle.model.proofs.Basics.{◌≡◌, refl, sym, ap, ◌∙◌, false, List, [], ◌∷◌, ℕ, ◌-◌, ◌≤◌, arith, get_or}
use Rattle.model.specs.{lists_of, full_of, layout_of, decode, some_wrong_entries, wrong_tasks}
use Rattle.model.proofs.Tools.Tables.{values}
use Rattle.model.proofs.TaskLists.Masks.{full_lists}
use Rattle.model.proofs.Bytes.Entries.{entries_within, counts_within}
use Rattle.model.proofs.Bytes.PlanBytes.{fitting}

-- the table that was
abbrev pub thirteen : List ℕ
thirteen = 1 ∷ 2 ∷ 4 ∷ 8 ∷ 16 ∷ 32 ∷ 64 ∷ 128 ∷ 256 ∷ 512 ∷ 1024 ∷ 2048 ∷ 4096 ∷ []

-- what was taken from it: 0 for more tasks
abbrev pub tabled : ℕ → ℕ
tabled n = get_or thirteen n 0

-- n tasks have as many lists as it says, and the full list is the last of them
pub record AsTabled (n : ℕ) : Type 0 where
  pub lists : lists_of n ≡ tabled n
  pub full : full_of n ≡ tabled n - 1

-- for every number of tasks that the table served
lists_tabled : (n : ℕ) → n ≤ 12 → lists_of n ≡ tabled n
unfolding lists_of
lists_tabled n h = sym (values lists_of thirteen n (omega arith) refl)

pub as_tabled : (n : ℕ) → n ≤ 12 → AsTabled n
as_tabled n h = record { lists = lists_tabled n h; full = sym (full_lists n) ∙ ap (λ (x : ℕ). x - 1) (lists_tabled n h) }

-- so for a sheet that 12 does not refuse
pub sheet_as_tabled : (b : List ℕ) → some_wrong_entries (layout_of b) b ≡ false → AsTabled (decode b).tasks
sheet_as_tabled b h = as_tabled _ (counts_within b (entries_within (layout_of b) b h)).tasks

-- and for a plan, written or read, that 12 does not refuse
pub plan_as_tabled : (n lent : ℕ) → wrong_tasks n lent ≡ false → AsTabled n
plan_as_tabled n lent h = as_tabled n (fitting n lent h).1
