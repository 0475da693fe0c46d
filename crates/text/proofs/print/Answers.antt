-- The whole text is made apart, and put into the buffer that was lent if it fits. Assumes nothing.
use Rattle.model.specs.{print}
use Rattle.text.proofs.Whole.{front_is, front_long, printed_out}
use Rattle.text.proofs.print.Goals as goal

pub returns : goal.returns
unfolding print
returns c =
    let a = c.args in let w = c.answer_lines-end.ensures in
    let o = printed_out a.s.now a.cells.now a.out.now (front_is w.text) c.put_text.ensures.written c.put_text.ensures.bytes in
    record { written = o.0; bytes = o.1; cells = w.cells }

pub slice_bounds-put_text-end : goal.slice_bounds-put_text-end
slice_bounds-put_text-end c =
    front_long c.answer_lines-end.ensures.text
