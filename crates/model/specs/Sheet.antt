-- What a task sheet says: how many entries each body has, and the fields of an entry by its number, from 0 in sheet order
-- (01, Layout of a task sheet). Nothing of bytes; a field beyond its count means nothing. Assumes nothing.
use Rattle.std.specs.Prelude.{ℕ, ℤ}

-- a task sheet (01, Layout of a task sheet)
pub record Sheet : Type 0 where
  -- van and goods when all tasks are done, in kilograms
  pub end_load : ℕ
  -- numbers of entries: N tasks and P points
  pub tasks : ℕ
  pub doors : ℕ
  pub starts : ℕ
  pub pairs : ℕ
  pub rules : ℕ
  pub points : ℕ
  -- of a task: its load change, positive for a delivery and negative for a pick-up
  pub change : ℕ → ℤ
  -- of a door: its task, its arrival and departure point, and its work
  pub task : ℕ → ℕ
  pub arrive : ℕ → ℕ
  pub depart : ℕ → ℕ
  pub work : ℕ → ℕ
  -- of a start: its point
  pub start_point : ℕ → ℕ
  -- of a pair: its two tasks
  pub sender : ℕ → ℕ
  pub receiver : ℕ → ℕ
  -- of an access rule: the door that it is on, the list of watched tasks, how many of them open it asks for, and the charge
  pub rule_door : ℕ → ℕ
  pub watched : ℕ → ℕ
  pub least_count : ℕ → ℕ
  pub charge : ℕ → ℕ
  -- of a point: the cost of ending there; and the decametres from one point to another
  pub end_cost : ℕ → ℕ
  pub distance : ℕ → ℕ → ℕ
