-- The lists of m tasks are visited one after the other: those below k are done, and the layer below shows what each needs. Assumes nothing.
use Rattle.model.proofs.Basics.{◌-◌}
use Rattle.model.specs.Sheet.{Sheet}
use Rattle.kernel_sheet.specs.Prepared.{ReceiversOf}
use Rattle.kernel_bellman.specs.Rests.{Arrayed}
use Rattle.kernel_layers.specs.Layers.{Shows, LayerRests}
use Rattle.kernel_layers.proofs.Layering.{Filling}
use Rattle.kernel_layers.proofs.size_rows.Given as goal

-- of every sheet that the numbers are of
abbrev pub invariant-loop-k : goal.invariant-loop-k
invariant-loop-k l = (S : Sheet) → Arrayed S l.from.numbers.now l.from.columns.now → ReceiversOf S l.from.numbers.now.tasks.receivers → LayerRests S l.from.slot.now l.from.back.now → Shows S (l.m - 1) l.below
    → Filling S l.m l.initial.here l.lists l.here l.k

abbrev pub decreases-loop-k : goal.decreases-loop-k
decreases-loop-k l = l.lists - l.k
