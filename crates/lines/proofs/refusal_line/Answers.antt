-- The line of a refusal is its label, its number and the end of the line. Assumes nothing.
use Rattle.model.specs.{refusal_line}
use Rattle.lines.specs.Lines.{labelled, line_of}
use Rattle.lines.proofs.refusal_line.Goals as goal

pub returns : goal.returns
unfolding refusal_line line_of labelled
returns c = c.line.ensures
