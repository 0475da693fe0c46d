-- Size after size: the layer of the size before shows what the next one needs, which is written into the other. Assumes nothing.
use Rattle.model.proofs.Basics.{◌-◌}
use Rattle.model.specs.Sheet.{Sheet}
use Rattle.kernel_sheet.specs.Prepared.{ReceiversOf}
use Rattle.kernel_bellman.specs.Rests.{Arrayed}
use Rattle.kernel_layers.specs.Layers.{Shows, Half, LayerRests}
use Rattle.kernel_layers.proofs.sizes_rows.Given as goal

-- of every sheet that the numbers are of
abbrev pub invariant-loop-m : goal.invariant-loop-m
invariant-loop-m l = (S : Sheet) → Arrayed S l.from.numbers.now l.from.columns.now → ReceiversOf S l.from.numbers.now.tasks.receivers → LayerRests S l.from.slot.now l.from.back.now → Shows S 0 l.initial.even
    → Half S 0 (l.m - 1) l.initial.even l.even × Half S 1 (l.m - 1) l.initial.odd l.odd
