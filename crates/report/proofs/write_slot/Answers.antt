-- Four fields, each with the byte that ends it.
use mathlib.Core.List.{[], ◌∷◌}
use Rattle.report.specs.Writing.{slot_text}
use Rattle.report.proofs.Fields.{last_room, last_wrote, first_room, rest_room, rest_wrote}
use Rattle.report.proofs.write_slot.Goals as goal

pub write_field-number-requires : goal.write_field-number-requires
unfolding slot_text
write_field-number-requires c = first_room (_ ∷ []) _ _ c.requires

pub write_number-word-requires : goal.write_number-word-requires
unfolding slot_text
write_number-word-requires c = first_room _ _ _ (rest_room (_ ∷ []) _ _ c.requires c.write_field-number.ensures)

pub write_qualifier-last-requires : goal.write_qualifier-last-requires
unfolding slot_text
write_qualifier-last-requires c = first_room _ _ _
    (rest_room _ _ _
    (rest_room (_ ∷ []) _ _ c.requires c.write_field-number.ensures)
    c.write_number-word.ensures)

pub write_shape-requires : goal.write_shape-requires
unfolding slot_text
write_shape-requires c = last_room _ _
    (rest_room _ _ _
    (rest_room _ _ _
    (rest_room (_ ∷ []) _ _ c.requires c.write_field-number.ensures)
    c.write_number-word.ensures)
    c.write_qualifier-last.ensures)

pub returns : goal.returns
unfolding slot_text
returns c = rest_wrote (_ ∷ []) _ _ c.write_field-number.ensures
    (rest_wrote _ _ _ c.write_number-word.ensures
    (rest_wrote _ _ _ c.write_qualifier-last.ensures (last_wrote _ c.write_shape.ensures)))
