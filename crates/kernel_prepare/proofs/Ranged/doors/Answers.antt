-- Each array has the numbers of the doors. Assumes nothing.
use Rattle.model.proofs.Basics.{◌*◌, rules}
use Rattle.view.specs.Sheets.{sheet_of}
use Rattle.view.proofs.Counted.{doors_are}
use Rattle.kernel_prepare.specs.Preparing.{doors_of}
use Rattle.kernel_prepare.proofs.Ranged.doors.Goals as goal

pub returns : goal.returns
unfolding doors_of
returns c =
    let s = c.args.self.now.sheet in
    let S = sheet_of s in
    let n = doors_are s.viewed in
    let column = c.padded.ensures (λ d. S.arrive d * S.points) (λ d x l p. search rules) in
    let task = c.padded-2.ensures S.task (λ d x l p. search rules) in
    let depart = c.padded-3.ensures S.depart (λ d x l p. search rules) in
    let work = c.padded-4.ensures S.work (λ d x l p. search rules) in
    cc
