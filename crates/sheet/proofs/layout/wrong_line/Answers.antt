-- Line i has body number i + 1 and the place of the body. Assumes nothing.
use Rattle.model.proofs.Basics.{add-one}
use Rattle.model.specs.{wrong_line}
use Rattle.sheet.proofs.layout.wrong_line.Goals as goal

pub returns : goal.returns
unfolding wrong_line
returns c = rw (add-one, c.line_body.ensures, c.line_offset.ensures, c.requires.1)
