-- The watched tasks of a list are counted up to 32, the mask's width: as many as below the sheet's number of tasks, for the list has no
-- other. Assumes nothing.
use Rattle.model.proofs.Basics.{arith}
use Rattle.cost.proofs.Rules.{charge_times}
use Rattle.cost.proofs.rule_charge.Goals as goal

pub returns : goal.returns
returns c =
    charge_times _ _ _ c.requires.0 (omega arith) c.watched-watched.ensures c.watched_in.ensures
    c.least_count.ensures c.charge.ensures
