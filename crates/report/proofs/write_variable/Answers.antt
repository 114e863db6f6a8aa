-- A code that is a word's has three fields, each with the byte that ends it; any other has no line.
use borrow.Author.Rules.{rules}
use Rattle.model.specs.Lists.{bytes}
use Rattle.report.proofs.Fields.{last_room, last_wrote, first_room, rest_room, rest_wrote}
use Rattle.report.proofs.Lines.{listed_room, listed_wrote, unlisted_wrote}
use Rattle.report.proofs.write_variable.Goals as goal

pub write_field-number-requires : goal.write_field-number-requires
write_field-number-requires c = first_room (bytes "G") _ _ (listed_room _ _ _ c.if-code-lt9.true c.requires)

pub write_number-word-requires : goal.write_number-word-requires
write_number-word-requires c = first_room _ _ _
    (rest_room (bytes "G") _ _
    (listed_room _ _ _ c.if-code-lt9.true c.requires)
    c.write_field-number.ensures)

pub write_qualifier-requires : goal.write_qualifier-requires
write_qualifier-requires c = last_room _ _
    (rest_room _ _ _
    (rest_room (bytes "G") _ _
    (listed_room _ _ _ c.if-code-lt9.true c.requires)
    c.write_field-number.ensures)
    c.write_number-word.ensures)

pub returns-then-code-lt9 : goal.returns-then-code-lt9
returns-then-code-lt9 c = search (listed_wrote, rest_wrote, last_wrote, rules)

pub returns : goal.returns
returns c = search (unlisted_wrote, rules)
