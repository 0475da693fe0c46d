-- Each part is that of the sheet, and so are the counts, which are those of the view. Assumes nothing.
use Rattle.model.proofs.Basics.{rules}
use Rattle.view.specs.Sheets.{sheet_of}
use Rattle.view.proofs.Counted.{tasks_are, doors_are, starts_are, rules_are, points_are}
use Rattle.kernel_prepare.specs.Preparing.{numbers_of, counts_of}
use Rattle.kernel_prepare.proofs.numbers.Goals as goal

pub returns : goal.returns
unfolding numbers_of counts_of
returns c =
    let s = c.args.sheet.now in
    let starts = c.padded.ensures (sheet_of s).start_point (λ i x l p. search rules) in
    let ends = c.padded-2.ensures (sheet_of s).end_cost (λ i x l p. search rules) in
    cc (tasks_are s.viewed, doors_are s.viewed, starts_are s.viewed, rules_are s.viewed, points_are s.viewed)
