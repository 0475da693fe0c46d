-- How the code tests 14 of the access rules: door and least count rule by rule, the watched tasks of all rules joined. Together they are `bad_rule`
-- (`bad_rule_is`). Assumes nothing.
use Rattle.std.specs.Prelude.{Bool, not, ◌||◌, ℕ, ◌^◌, leb}
use Rattle.model.specs.Folds.{is_between}
use Rattle.model.specs.Sheet.{Sheet}
use Rattle.model.specs.SheetLayout.{Layout}

-- the bits of a rule's watched tasks: how many tasks it can watch
abbrev pub watched_bits : ℕ
watched_bits = 16

-- rule i has its door or its least count out of range
unfoldable pub bad_door_or_count : Layout → Sheet → ℕ → Bool
bad_door_or_count L S i = leb S.doors (S.rule_door i) || not (is_between 1 L.max_least_count (S.least_count i))

-- rule i watches a task at N or above
unfoldable pub watches_beyond : Sheet → ℕ → Bool
watches_beyond S i = leb (2 ^ S.tasks) (S.watched i)
