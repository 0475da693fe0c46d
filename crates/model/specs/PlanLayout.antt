-- The layout of a plan: writing one and reading one (01, Layout of a plan, which every definition here is from). Assumes nothing.
use Rattle.std.specs.Prelude.{Bool, cond, not, ◌||◌, List, [], ◌∷◌, ◌++◌, ℕ, ◌+◌, ◌*◌, eqb, ltb, length, get_or, take}
use Rattle.model.specs.Folds.{is_between, flat_map_below, map_below, same_list}
use Rattle.model.specs.Bytes.{number_at, bytes_of, overwrite}
use Rattle.model.specs.Answer.{Answer, refused, accepted, Test, ◌when◌, refuse_first, placed}
use Rattle.model.specs.SheetLayout.{line_at}

-- a plan has room for this many doors
abbrev pub max_plan_doors : ℕ
max_plan_doors = 12

-- the kind of a plan, in bytes 0 and 1; the two behind it are zero
abbrev pub plan_kind : ℕ
plan_kind = 2

-- ---- places, with n doors: behind kind, zero and three contents lines stand the start (16 bits), the doors (16 bits each) and the cost (64 bits)

-- where the start stands: at byte 22
unfoldable pub plan_start_at : ℕ
plan_start_at = line_at 3

-- where the doors stand: at byte 24
unfoldable pub plan_doors_at : ℕ
plan_doors_at = plan_start_at + 2

-- where the cost stands: at byte 24 + 2n
unfoldable pub plan_cost_at : ℕ → ℕ
plan_cost_at n = plan_doors_at + 2 * n

-- the length: 32 + 2n
unfoldable pub plan_length : ℕ → ℕ
plan_length n = plan_cost_at n + 8

-- ---- writing

-- a contents line: body number, byte offset, number of entries
unfoldable pub line_bytes : ℕ → ℕ → ℕ → List ℕ
line_bytes number offset count = bytes_of 2 number ++ bytes_of 2 offset ++ bytes_of 2 count

-- the bytes before the start
unfoldable pub plan_head : ℕ → List ℕ
plan_head n = bytes_of 2 plan_kind ++ bytes_of 2 0 ++ line_bytes 1 plan_start_at 1 ++ line_bytes 2 plan_doors_at n ++ line_bytes 3 (plan_cost_at n) 1

-- the bytes of the first n of the doors
unfoldable pub door_bytes : ℕ → List ℕ → List ℕ
door_bytes n doors = flat_map_below n (λ i. bytes_of 2 (get_or doors i 0))

-- a plan's bytes
unfoldable pub plan_bytes : ℕ → ℕ → List ℕ → ℕ → List ℕ
plan_bytes n start doors cost = plan_head n ++ bytes_of 2 start ++ door_bytes n doors ++ bytes_of 8 cost

-- 12: the number of tasks is outside the room of a plan, or above the number of doors lent. Document 01 lends an array of twelve, which the second never refuses;
-- the C interface lends any number
unfoldable pub wrong_tasks : ℕ → ℕ → Bool
wrong_tasks n lent = not (is_between 1 max_plan_doors n) || ltb lent n

-- the answer, which is the length, and the whole buffer afterwards
pub record PlanWritten : Type 0 where
  pub answer : Answer ℕ
  pub bytes : List ℕ

-- 21: the room is shorter than a plan of n doors
unfoldable pub short_room : ℕ → ℕ → Bool
short_room n room = ltb room (plan_length n)

-- the numbers of writing, in the order in which they are tested
unfoldable pub write_tests : ℕ → ℕ → ℕ → List Test
write_tests n lent room = (12 when wrong_tasks n lent) ∷ (21 when short_room n room) ∷ []

-- what writing answers: one of them, else the length
unfoldable pub write_answer : ℕ → ℕ → ℕ → Answer ℕ
write_answer n lent room = refuse_first (write_tests n lent room) (accepted (plan_length n))

-- a refusal leaves the buffer as it was
unfoldable pub bytes_written : Answer ℕ → List ℕ → List ℕ → List ℕ
bytes_written (refused r) bytes buffer = buffer
bytes_written (accepted l) bytes buffer = overwrite bytes buffer

-- writing takes n, a start, the first n of the doors lent, a cost and the buffer as lent
unfoldable pub write_plan : ℕ → ℕ → List ℕ → ℕ → List ℕ → PlanWritten
write_plan n start doors cost buffer = record {
  answer = write_answer n (length doors) (length buffer);
  bytes = bytes_written (write_answer n (length doors) (length buffer)) (plan_bytes n start doors cost) buffer;
}

-- ---- reading

-- 30: a byte before the start is not as laid out for n doors
unfoldable pub wrong_head : ℕ → List ℕ → Bool
wrong_head n q = not (same_list (take plan_start_at q) (plan_head n))

-- 30: the length is not as laid out, or a byte before the start
unfoldable pub ill_formed : ℕ → List ℕ → Bool
ill_formed n q = not (eqb (length q) (plan_length n)) || wrong_head n q

-- the start that the bytes hold
unfoldable pub start_in : List ℕ → ℕ
start_in q = number_at 2 q plan_start_at

-- door i that they hold
unfoldable pub door_in : List ℕ → ℕ → ℕ
door_in q i = number_at 2 q (plan_doors_at + 2 * i)

-- the n doors that they hold
unfoldable pub doors_in : ℕ → List ℕ → List ℕ
doors_in n q = map_below n (door_in q)

-- the cost that they hold
unfoldable pub cost_in : ℕ → List ℕ → ℕ
cost_in n q = number_at 8 q (plan_cost_at n)

-- the array of doors that reading leaves: of so many lent the first n as read, and 0 from n on
unfoldable pub door_array : ℕ → ℕ → (ℕ → ℕ) → List ℕ
door_array lent n door = map_below lent (λ i. cond (ltb i n) (door i) 0)

-- what reading answers: start, cost, and as many doors as are lent
pub record PlanRead : Type 0 where
  pub start : ℕ
  pub doors : List ℕ
  pub cost : ℕ

-- the numbers of reading, in the order in which they are tested
unfoldable pub read_tests : ℕ → ℕ → List ℕ → List Test
read_tests n lent q = (12 when wrong_tasks n lent) ∷ (30 when ill_formed n q) ∷ []

-- reading takes n, the number of doors lent, and the bytes
unfoldable pub read_plan : ℕ → ℕ → List ℕ → Answer PlanRead
read_plan n lent q = refuse_first (read_tests n lent q) (accepted (record { start = start_in q; doors = door_array lent n (door_in q); cost = cost_in n q }))

-- what reading leaves where start, doors and cost are asked for
abbrev pub start_left : ℕ → ℕ → List ℕ → ℕ → ℕ
start_left n lent q before = placed (λ (x : PlanRead). x.start) (read_plan n lent q) before

abbrev pub doors_left : ℕ → List ℕ → List ℕ → List ℕ
doors_left n q before = placed (λ (x : PlanRead). x.doors) (read_plan n (length before) q) before

abbrev pub cost_left : ℕ → ℕ → List ℕ → ℕ → ℕ
cost_left n lent q before = placed (λ (x : PlanRead). x.cost) (read_plan n lent q) before
