-- The first N of the rest, or all of it with zeros behind. Assumes nothing.
use Rattle.model.proofs.Basics.{◌∙◌}
use Rattle.model.proofs.Tools.Folds.{map_below_cong}
use Rattle.number.proofs.Bytes.{rest_at, first_of_rest}
use Rattle.number.proofs.bytes_at.Goals as goal

pub returns-in-Some : goal.returns-in-Some
returns-in-Some g c =
    c.in-Some.ensures.cases.same ∙ first_of_rest _ _ _ c.min.ensures g.row.N c.in-Some.ensures.cases.enough

pub returns-in-None : goal.returns-in-None
returns-in-None g c =
    c.padded.ensures ∙ map_below_cong g.row.N _ _ (λ k l. rest_at _ _ k _ c.min.ensures)
