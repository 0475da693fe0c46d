-- The only field of the tasks, whose place no count moves, in two's complement. Assumes nothing.
use Rattle.model.proofs.Basics.{arith, ap, ◌∙◌, lit<}
use Rattle.model.specs.{signed, tasks_body, kind1, field_width, decode_by, layout_of, decode}
use mir.Syntax.{w16}
use mir.ValLaws.{to_z-of_z}
use Rattle.number.proofs.Bytes.{le_number_2}
use Rattle.view.proofs.Fields.{within, field_is}
use Rattle.view.proofs.TaskSheet.change.Goals as goal

pub field-requires : goal.field-requires
unfolding decode_by decode
field-requires c =
    (lit< tt, within c.args.self.now.viewed tasks_body 0 _ (lit< tt) c.requires)

pub returns : goal.returns
unfolding layout_of kind1 field_width decode_by decode
returns c =
    to_z-of_z w16 _ (record { sfits = c.to_i16.type_inv })
    ∙ c.to_i16.ensures
    ∙ ap (signed 2) (field_is c.args.self.now.viewed tasks_body 0 _ (lit< tt) (omega (arith, le_number_2 _ _ c.field.ensures c.from_le_bytes.ensures)))
