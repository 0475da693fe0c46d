-- The numbers of a sheet as they are prepared: every array has the fields below their count, and 0 behind them; and the distances by columns. Assumes nothing.
use Rattle.std.specs.Prelude.{cond, List, ◌++◌, ℕ, zero, suc, ◌*◌, eqb, pos, drop, replicate}
use Rattle.model.specs.Folds.{map_below}
use Rattle.model.specs.Sheet.{Sheet}
use Rattle.model.specs.SheetLayout.{max_tasks, max_doors, max_starts, max_rules, max_points}
use Rattle.model.specs.Method.{mask_bits, with_in}
use Rattle.kernel_sheet.specs.declared.Counts.{Counts}
use Rattle.kernel_sheet.specs.declared.Tasks.{Tasks}
use Rattle.kernel_sheet.specs.declared.Doors.{Doors}
use Rattle.kernel_sheet.specs.declared.Rules.{Rules}
use Rattle.kernel_sheet.specs.declared.Numbers.{Numbers}

-- an array with a place for `room`: f 0, f 1, .. below n, and behind them the number for nothing
abbrev pub padded : {A : Type 0} → A → ℕ → ℕ → (ℕ → A) → List A
padded none room n f = map_below n f ++ drop n (replicate room none)

-- the receivers of the pairs below n whose sender is t, as a mask
abbrev pub receivers_below : Sheet → ℕ → ℕ → ℕ
receivers_below S zero t = 0
receivers_below S (suc n) t = cond (eqb (S.sender n) t) (with_in mask_bits (receivers_below S n t) (S.receiver n)) (receivers_below S n t)

-- the doors below n of task t, as a set of 64 bits
abbrev pub doors_below : Sheet → ℕ → ℕ → ℕ
doors_below S zero t = 0
doors_below S (suc n) t = cond (eqb (S.task n) t) (with_in max_doors (doors_below S n t) n) (doors_below S n t)

unfoldable pub counts_of : Sheet → Counts
counts_of S = record { end_load = S.end_load; tasks = S.tasks; doors = S.doors; starts = S.starts; rules = S.rules; points = S.points }

unfoldable pub tasks_of : Sheet → Tasks
tasks_of S = record {
  change = padded (pos 0) max_tasks S.tasks S.change;
  receivers = map_below max_tasks (receivers_below S S.pairs);
  doors = map_below max_tasks (doors_below S S.doors);
}

unfoldable pub doors_of : Sheet → Doors
doors_of S = record {
  column = padded 0 max_doors S.doors (λ d. S.arrive d * S.points);
  task = padded 0 max_doors S.doors S.task;
  depart = padded 0 max_doors S.doors S.depart;
  work = padded 0 max_doors S.doors S.work;
}

-- a rule is charged once at most
unfoldable pub rules_of : Sheet → Rules
rules_of S = record {
  door = padded 0 max_rules S.rules S.rule_door;
  watched = padded 0 max_rules S.rules S.watched;
  least = padded 0 max_rules S.rules S.least_count;
  most = padded 0 max_rules S.rules (λ i. 1);
  charge = padded 0 max_rules S.rules S.charge;
}

-- all but the distances
unfoldable pub numbers_of : Sheet → Numbers
numbers_of S = record {
  counts = counts_of S;
  tasks = tasks_of S;
  doors = doors_of S;
  rules = rules_of S;
  starts = padded 0 max_starts S.starts S.start_point;
  ends = padded 0 max_points S.points S.end_cost;
}
