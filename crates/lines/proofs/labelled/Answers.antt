-- The number is put behind the label; there is room for any number. Assumes nothing.
use Rattle.model.proofs.Basics.{◌+◌, arith}
use Rattle.model.specs.{decimal}
use Rattle.lines.specs.Lines.{labelled, Laid}
use Rattle.lines.proofs.Laying.{wrote, put_on, few}
use Rattle.lines.proofs.labelled.Goals.{After-put_number, After-put_text}
use Rattle.lines.proofs.labelled.Goals as goal

label_laid : (c : After-put_text) →
    let a = c.args in
    Laid a.at a.label.now a.out.now c.put_text.new.out (a.at + c.put_text.result)
label_laid c = wrote (omega arith) c.put_text.ensures.written c.put_text.ensures.bytes

both_laid : (c : After-put_number) →
    let a = c.args in
    Laid a.at (labelled a.label.now a.n) a.out.now c.put_number.new.out (a.at + c.put_text.result + c.put_number.result)
unfolding labelled
both_laid c =
    let l : Laid c.args.at c.args.label.now c.args.out.now c.put_text.new.out (c.args.at + c.put_text.result) =
    wrote (omega arith) c.put_text.ensures.written c.put_text.ensures.bytes in
    put_on l (decimal _) (omega (arith, few _ c.ranges.n.fits)) c.put_number.ensures.written c.put_number.ensures.bytes

pub overflow_add-behind : goal.overflow_add-behind
overflow_add-behind c =
    record { fits = omega (arith, (label_laid (goal.at.overflow_add-behind c).After-put_text).within) }

pub overflow_add-result : goal.overflow_add-result
overflow_add-result c =
    record { fits = omega (arith, (both_laid (goal.at.overflow_add-result c).After-put_number).within) }

pub returns : goal.returns
returns c =
    both_laid (goal.at.returns c).After-put_number
