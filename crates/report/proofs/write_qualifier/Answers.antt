-- The word of a code is PLAIN, or the word of the table that stands before its code, or empty past the table.
use borrow.Author.Rules.{rules}
use Rattle.report.proofs.Words.{plain_room, plain_wrote, no_word_wrote, tabled_room, tabled_wrote}
use Rattle.report.proofs.write_qualifier.Goals as goal

pub write_field-requires : goal.write_field-requires
write_field-requires c = plain_room _ _ _ c.if-code-eq0.true c.requires

pub returns-then-code-eq0 : goal.returns-then-code-eq0
returns-then-code-eq0 c = search (plain_wrote, rules)

pub returns-then-code-gt8 : goal.returns-then-code-gt8
returns-then-code-gt8 c = no_word_wrote _ _ c.if-code-gt8.true _ _ _

pub write_field-requires-2 : goal.write_field-requires-2
write_field-requires-2 c = tabled_room _ _ c.if-code-eq0.false c.if-code-gt8.false _ c.requires

pub returns : goal.returns
returns c = tabled_wrote _ _ c.if-code-eq0.false c.if-code-gt8.false _ c.write_field-2.ensures
