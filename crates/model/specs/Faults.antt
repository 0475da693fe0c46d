-- The sheet's own faults, 10 to 17, and reading a sheet (01, Numbers a call can answer with, which every definition here is from, but 16 and its place in the order,
-- which are from 02, Req 03). Assumes nothing.
use Rattle.std.specs.Prelude.{Bool, not, ◌&&◌, ◌||◌, List, [], ◌∷◌, ℕ, suc, ◌^◌, eqb, ltb, leb, length, get_or, pos}
use Rattle.std.specs.Int.Signed.{lt_z}
use Rattle.model.specs.Folds.{all_below, any_below, is_between}
use Rattle.model.specs.Sheet.{Sheet}
use Rattle.model.specs.Orders.{no_order, essential}
use Rattle.model.specs.Cost.{load}
use Rattle.model.specs.Bytes.{number_at}
use Rattle.model.specs.Answer.{Answer, accepted, Test, ◌when◌, refuse_first, placed}
use Rattle.model.specs.SheetLayout.{Layout, points_body, bodies, line_at, line_body, line_offset, entries, body_at, layout_of, decode}

-- ---- 10 to 13: of the bytes

-- 10: the sheet is shorter than its head
unfoldable pub too_short : List ℕ → Bool
too_short b = ltb (length b) (line_at bodies)

-- 11: the kind is not that of the layout
unfoldable pub wrong_kind : Layout → List ℕ → Bool
wrong_kind L b = not (eqb (number_at 2 b 0) L.kind)

-- 12: the number of entries of body i is outside the table
unfoldable pub wrong_entries : Layout → List ℕ → ℕ → Bool
wrong_entries L b i = not (is_between (get_or (L.fewest (entries b points_body)) i 0) (get_or (L.most (entries b points_body)) i 0) (entries b i))

-- 12: that of some body is outside it
unfoldable pub some_wrong_entries : Layout → List ℕ → Bool
some_wrong_entries L b = any_below bodies (wrong_entries L b)

-- 13: contents line i has a wrong body number or offset
unfoldable pub wrong_line : Layout → List ℕ → ℕ → Bool
wrong_line L b i = not (eqb (line_body b i) (suc i)) || not (eqb (line_offset b i) (body_at L b i))

-- 13: the sheet's length is not the end of its last body
unfoldable pub wrong_length : Layout → List ℕ → Bool
wrong_length L b = not (eqb (length b) (body_at L b bodies))

-- 13: a body number or offset is wrong, or the length
unfoldable pub wrong_places : Layout → List ℕ → Bool
wrong_places L b = any_below bodies (wrong_line L b) || wrong_length L b

-- ---- 14 to 17: of what the sheet says

-- 14, of door d: its task or one of its points is out of range
unfoldable pub bad_door : Sheet → ℕ → Bool
bad_door S d = leb S.tasks (S.task d) || leb S.points (S.arrive d) || leb S.points (S.depart d)

-- 14, of start s: its point is out of range
unfoldable pub bad_start : Sheet → ℕ → Bool
bad_start S s = leb S.points (S.start_point s)

-- 14, of pair i: one of its tasks is out of range
unfoldable pub bad_pair : Sheet → ℕ → Bool
bad_pair S i = leb S.tasks (S.sender i) || leb S.tasks (S.receiver i)

-- 14, of access rule i: its door or its least count is out of range, or it has a watched bit at N or above, which makes the list 2 ^ N or more
unfoldable pub bad_rule : Layout → Sheet → ℕ → Bool
bad_rule L S i = leb S.doors (S.rule_door i) || leb (2 ^ S.tasks) (S.watched i) || not (is_between 1 L.max_least_count (S.least_count i))

-- 14, of some door, start, pair or access rule
unfoldable pub some_bad_door : Sheet → Bool
some_bad_door S = any_below S.doors (bad_door S)

unfoldable pub some_bad_start : Sheet → Bool
some_bad_start S = any_below S.starts (bad_start S)

unfoldable pub some_bad_pair : Sheet → Bool
some_bad_pair S = any_below S.pairs (bad_pair S)

unfoldable pub some_bad_rule : Layout → Sheet → Bool
some_bad_rule L S = any_below S.rules (bad_rule L S)

-- 14: a task, point, door or least count is out of range, or a watched bit at N or above
unfoldable pub out_of_range : Layout → Sheet → Bool
out_of_range L S = some_bad_door S || some_bad_start S || some_bad_pair S || some_bad_rule L S

-- 15: task t has no door
unfoldable pub lacks_door : Sheet → ℕ → Bool
lacks_door S t = all_below S.doors (λ d. not (eqb (S.task d) t))

-- 15: some task has no door
unfoldable pub some_lacks_door : Sheet → Bool
some_lacks_door S = any_below S.tasks (lacks_door S)

-- 16, of list K: it is essential, and its load is below zero (02, Req 03)
unfoldable pub light_list : Sheet → ℕ → Bool
light_list S K = essential S K && lt_z (load S K) (pos 0)

-- 16: some essential list has a load below zero (02, Req 03). Lists run to 2 ^ N - 1, the full one
unfoldable pub too_light : Sheet → Bool
too_light S = any_below (2 ^ S.tasks) (light_list S)

-- ---- the answer: the first fault that applies

-- the sheet's own numbers, in the order in which they are tested: 17 comes before 16 (02, Req 03), so of several that apply it is not the lowest that is answered, but
-- the first in this order
unfoldable pub sheet_tests : List ℕ → List Test
sheet_tests b =
    (10 when too_short b)
    ∷ (11 when wrong_kind (layout_of b) b)
    ∷ (12 when some_wrong_entries (layout_of b) b)
    ∷ (13 when wrong_places (layout_of b) b)
    ∷ (14 when out_of_range (layout_of b) (decode b))
    ∷ (15 when some_lacks_door (decode b))
    ∷ (17 when no_order (decode b))
    ∷ (16 when too_light (decode b))
    ∷ []

-- the answer a, unless the sheet has a fault; planning and judging read first
unfoldable pub unless_fault : {A : Type 0} → List ℕ → Answer A → Answer A
unless_fault b a = refuse_first (sheet_tests b) a

-- a sheet that reads returns N and P
pub record Counts : Type 0 where
  pub tasks : ℕ
  pub points : ℕ

-- reading a sheet
unfoldable pub read_sheet : List ℕ → Answer Counts
read_sheet b = unless_fault b (accepted (record { tasks = (decode b).tasks; points = (decode b).points }))

-- what reading leaves where N and P are asked for, through the C interface
abbrev pub tasks_left : List ℕ → ℕ → ℕ
tasks_left b before = placed (λ (c : Counts). c.tasks) (read_sheet b) before

abbrev pub points_left : List ℕ → ℕ → ℕ
points_left b before = placed (λ (c : Counts). c.points) (read_sheet b) before
