-- The end of the line is put behind label and number; there is room for all three. Assumes nothing.
use Rattle.model.proofs.Basics.{◌+◌, arith}
use Rattle.model.specs.{line_end}
use Rattle.lines.specs.Lines.{line_of, Laid}
use Rattle.lines.proofs.Laying.{put_on, long_label}
use Rattle.lines.proofs.line.Goals.{After-put_text}
use Rattle.lines.proofs.line.Goals as goal

whole_laid : (c : After-put_text) →
    let a = c.args in
    Laid a.at (line_of a.label.now a.n) a.out.now c.put_text.new.out (c.labelled-end.result + c.put_text.result)
unfolding line_of
whole_laid c =
    let l = long_label c.args.label.now _ c.ranges.n.fits in
    put_on c.labelled-end.ensures line_end (omega (arith, l)) c.put_text.ensures.written c.put_text.ensures.bytes

pub overflow_add-result : goal.overflow_add-result
overflow_add-result c =
    record { fits = omega (arith, (whole_laid (goal.at.overflow_add-result c).After-put_text).within) }

pub returns : goal.returns
returns c = whole_laid (goal.at.returns c).After-put_text
