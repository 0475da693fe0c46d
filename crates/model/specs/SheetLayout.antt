-- The layout of a task sheet, as a table, and what its bytes say (01, Layout of a task sheet, which every definition here is from).
-- Bodies, contents lines, fields and entries are counted from 0 here, so body i is number i + 1 in the sheet. Assumes nothing.
use Rattle.std.specs.Prelude.{List, [], ◌∷◌, ℕ, zero, suc, ◌+◌, ◌*◌, length, get_or}
use Rattle.model.specs.Folds.{sum_below}
use Rattle.model.specs.Sheet.{Sheet}
use Rattle.model.specs.Bytes.{number_at, signed}

-- ---- the table of a kind of sheet

-- the layout table
pub record Layout : Type 0 where
  -- the kind, in bytes 0 and 1
  pub kind : ℕ
  -- the least and the largest number of entries of each body, with P points
  pub fewest : ℕ → List ℕ
  pub most : ℕ → List ℕ
  -- the widths in bytes of the fields of an entry, for each body
  pub field_widths : List (List ℕ)
  -- a least count runs from 1 to this
  pub max_least_count : ℕ

-- body 1, tasks
abbrev pub tasks_body : ℕ
tasks_body = 0

-- body 2, doors
abbrev pub doors_body : ℕ
doors_body = 1

-- body 3, starts
abbrev pub starts_body : ℕ
starts_body = 2

-- body 4, pairs
abbrev pub pairs_body : ℕ
pairs_body = 3

-- body 5, access rules
abbrev pub rules_body : ℕ
rules_body = 4

-- body 6, points
abbrev pub points_body : ℕ
points_body = 5

-- body 7, distances
abbrev pub distances_body : ℕ
distances_body = 6

-- how many bodies there are
abbrev pub bodies : ℕ
bodies = 7

-- the most tasks of kind 1
abbrev pub max_tasks : ℕ
max_tasks = 12

-- the most doors
abbrev pub max_doors : ℕ
max_doors = 64

-- the most starts
abbrev pub max_starts : ℕ
max_starts = 16

-- the most pairs
abbrev pub max_pairs : ℕ
max_pairs = 32

-- the most access rules
abbrev pub max_rules : ℕ
max_rules = 32

-- the most points
abbrev pub max_points : ℕ
max_points = 64

-- kind 1; there are exactly P times P distances
unfoldable pub kind1 : Layout
kind1 = record {
  kind = 1;
  fewest = λ P. 1 ∷ 1 ∷ 1 ∷ 0 ∷ 0 ∷ 1 ∷ P * P ∷ [];
  most = λ P. max_tasks ∷ max_doors ∷ max_starts ∷ max_pairs ∷ max_rules ∷ max_points ∷ P * P ∷ [];
  field_widths =
      -- load change
      (2 ∷ [])
      -- task, arrival point, departure point, work
      ∷ (2 ∷ 2 ∷ 2 ∷ 4 ∷ [])
      -- point
      ∷ (2 ∷ [])
      -- sender task, receiver task
      ∷ (2 ∷ 2 ∷ [])
      -- door, watched tasks, least count, charge
      ∷ (2 ∷ 2 ∷ 2 ∷ 4 ∷ [])
      -- end cost
      ∷ (4 ∷ [])
      -- decametres, row "from", column "to"
      ∷ (2 ∷ [])
      ∷ [];
  max_least_count = 12;
}

-- ---- places in a sheet, computed from the table

-- the width of field f of body i
unfoldable pub field_width : Layout → ℕ → ℕ → ℕ
field_width L i f = get_or (get_or L.field_widths i []) f 0

-- the bytes of an entry of body i before field f
unfoldable pub bytes_before : Layout → ℕ → ℕ → ℕ
bytes_before L i f = sum_below f (field_width L i)

-- the bytes of an entry of body i
unfoldable pub entry_bytes : Layout → ℕ → ℕ
entry_bytes L i = bytes_before L i (length (get_or L.field_widths i []))

-- contents line i stands behind kind and end load, 16 bits each: body number, byte offset, number of entries, 16 bits each
unfoldable pub line_at : ℕ → ℕ
line_at i = 4 + 6 * i

-- the body number that contents line i states
unfoldable pub line_body : List ℕ → ℕ → ℕ
line_body b i = number_at 2 b (line_at i)

-- the offset that it states
unfoldable pub line_offset : List ℕ → ℕ → ℕ
line_offset b i = number_at 2 b (line_at i + 2)

-- the number of entries that it states
unfoldable pub entries : List ℕ → ℕ → ℕ
entries b i = number_at 2 b (line_at i + 4)

-- the first body starts behind the contents lines, each next where the one before ends; behind the last the sheet ends
abbrev pub body_at : Layout → List ℕ → ℕ → ℕ
body_at L b zero = line_at bodies
body_at L b (suc i) = body_at L b i + entries b i * entry_bytes L i

-- field f of entry e of body i
unfoldable pub field_at : Layout → List ℕ → ℕ → ℕ → ℕ → ℕ
field_at L b i f e = number_at (field_width L i f) b (body_at L b i + e * entry_bytes L i + bytes_before L i f)

-- ---- what a sheet says

-- the sheet that the bytes stand for, by the layout
unfoldable pub decode_by : Layout → List ℕ → Sheet
decode_by L b = record {
  end_load = number_at 2 b 2;
  tasks = entries b tasks_body;
  doors = entries b doors_body;
  starts = entries b starts_body;
  pairs = entries b pairs_body;
  rules = entries b rules_body;
  points = entries b points_body;
  change = λ t. signed (field_width L tasks_body 0) (field_at L b tasks_body 0 t);
  task = λ d. field_at L b doors_body 0 d;
  arrive = λ d. field_at L b doors_body 1 d;
  depart = λ d. field_at L b doors_body 2 d;
  work = λ d. field_at L b doors_body 3 d;
  start_point = λ s. field_at L b starts_body 0 s;
  sender = λ i. field_at L b pairs_body 0 i;
  receiver = λ i. field_at L b pairs_body 1 i;
  rule_door = λ i. field_at L b rules_body 0 i;
  watched = λ i. field_at L b rules_body 1 i;
  least_count = λ i. field_at L b rules_body 2 i;
  charge = λ i. field_at L b rules_body 3 i;
  end_cost = λ p. field_at L b points_body 0 p;
  distance = λ p q. field_at L b distances_body 0 (p * entries b points_body + q);
}

-- the layout of a sheet, by its kind: there is one. Nothing else here knows the kind
unfoldable pub layout_of : List ℕ → Layout
layout_of b = kind1

-- the sheet that the bytes stand for
unfoldable pub decode : List ℕ → Sheet
decode b = decode_by (layout_of b) b
