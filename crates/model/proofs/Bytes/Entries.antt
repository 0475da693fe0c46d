-- The numbers of entries of a sheet that 12 does not refuse. Assumes nothing.
use Rattle.model.proofs.Basics.{◌≡◌, false, List, ℕ, ◌≤◌, ◌<◌, arith, lit<, not-false}
use Rattle.model.specs.{mask_bits, Layout, tasks_body, doors_body, starts_body, pairs_body, rules_body, points_body, bodies, max_tasks}
use Rattle.model.specs.{kind1, entries, decode_by, layout_of, decode, wrong_entries, some_wrong_entries, EntriesWithin, CountsWithin}
use Rattle.model.proofs.Tools.Tests.{between_true, none_at}

pub entries_within : (L : Layout) (b : List ℕ) → some_wrong_entries L b ≡ false → EntriesWithin L b
unfolding some_wrong_entries wrong_entries
entries_within L b h i l = between_true _ _ (entries b i) (not-false _ (none_at bodies (wrong_entries L b) h i l))

-- a mask has room for the number of lists of as many tasks as the sheet may have
pub tasks_listed : (n : ℕ) → n ≤ max_tasks → n < mask_bits
tasks_listed n h = omega arith

pub counts_within : (b : List ℕ) → EntriesWithin (layout_of b) b → CountsWithin (decode b)
unfolding decode decode_by layout_of kind1
counts_within b at = record {
  one_task = (at tasks_body (lit< tt)).0;
  tasks = (at tasks_body (lit< tt)).1;
  one_door = (at doors_body (lit< tt)).0;
  doors = (at doors_body (lit< tt)).1;
  one_start = (at starts_body (lit< tt)).0;
  starts = (at starts_body (lit< tt)).1;
  pairs = (at pairs_body (lit< tt)).1;
  rules = (at rules_body (lit< tt)).1;
  one_point = (at points_body (lit< tt)).0;
  points = (at points_body (lit< tt)).1;
}
