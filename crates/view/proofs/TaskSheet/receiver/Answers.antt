-- Field 1 of the pairs, counted from 0. Assumes nothing.
use Rattle.model.proofs.Basics.{arith, lit<}
use Rattle.model.specs.{pairs_body, decode_by, decode}
use Rattle.number.proofs.Bytes.{le_number_2}
use Rattle.view.proofs.Fields.{within, field_is}
use Rattle.view.proofs.TaskSheet.receiver.Goals as goal

pub field-requires : goal.field-requires
unfolding decode_by decode
field-requires c =
    (lit< tt, within c.args.self.now.viewed pairs_body 1 _ (lit< tt) c.requires)

pub returns : goal.returns
unfolding decode_by decode
returns c =
    field_is c.args.self.now.viewed pairs_body 1 _ (lit< tt) (omega (arith, le_number_2 _ _ c.field.ensures c.from_le_bytes.ensures))
