-- Each array has the numbers of the tasks. Assumes nothing.
use Rattle.model.proofs.Basics.{rules}
use Rattle.view.specs.Sheets.{sheet_of}
use Rattle.view.proofs.Counted.{tasks_are}
use Rattle.kernel_prepare.specs.Preparing.{tasks_of}
use Rattle.kernel_prepare.proofs.Ranged.tasks.Goals as goal

pub returns : goal.returns
unfolding tasks_of
returns c =
    let s = c.args.self.now.sheet in
    let n = tasks_are s.viewed in
    let change = c.padded.ensures (sheet_of s).change (λ t x l p. search rules) in
    cc
