-- What the reader answers of a sheet that reads, from its view (01, Numbers a call can answer with). Assumes nothing.
use Rattle.model.specs.Faults.{Counts}
use Rattle.view.specs.declared.View.{View}

-- the numbers of tasks and points
abbrev pub counts_in : View → Counts
counts_in v = record { tasks = v.tasks; points = v.points }
