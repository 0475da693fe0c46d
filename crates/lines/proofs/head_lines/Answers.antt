-- The line of the start is laid behind that of the cost; there is room for both. Assumes nothing.
use Rattle.model.proofs.Basics.{◌+◌, arith}
use Rattle.model.specs.{ascii}
use Rattle.lines.specs.Lines.{head_lines, max_digits}
use Rattle.lines.proofs.Laying.{laid_on, behind, long_line}
use Rattle.lines.proofs.head_lines.Goals as goal

pub line-requires : goal.line-requires
line-requires c =
    let long = long_line (ascii "cost ") c.args.cost (omega arith) in
    omega (arith, behind c.line-behind_cost.ensures (6 + max_digits + 1) (omega (arith, long)))

pub returns : goal.returns
unfolding head_lines
returns c =
    laid_on c.line-behind_cost.ensures c.line.ensures
