-- Three fields, each with the byte that ends it.
use borrow.Author.Rules.{rules}
use Rattle.report.specs.Writing.{pair_text}
use Rattle.report.proofs.Fields.{last_room, last_wrote, first_room, rest_room, rest_wrote}
use Rattle.report.proofs.write_pair.Goals as goal

pub write_field-first-requires : goal.write_field-first-requires
unfolding pair_text
write_field-first-requires c = first_room _ _ _ c.requires

pub write_number-second-requires : goal.write_number-second-requires
unfolding pair_text
write_number-second-requires c = first_room _ _ _ (rest_room _ _ _ c.requires c.write_field-first.ensures)

pub write_number-requires : goal.write_number-requires
unfolding pair_text
write_number-requires c = last_room _ _
    (rest_room _ _ _
    (rest_room _ _ _ c.requires c.write_field-first.ensures)
    c.write_number-second.ensures)

pub returns : goal.returns
unfolding pair_text
returns c = search (last_wrote, rest_wrote, rules)
