-- Four texts after one another, with the words of the table, which spells the names; there is room for each since a report has room.
use borrow.Author.Rules.{rules}
use Rattle.report.proofs.Text.{counts_room, variables_room, params_room, rows_room, same_text, written}
use Rattle.report.proofs.Witness.{table_room}
use Rattle.report.proofs.write.Goals as goal

pub write_counts-first-requires : goal.write_counts-first-requires
write_counts-first-requires c = counts_room _ _ _ _ (table_room _ _ c.requires.0 c.new-words.ensures c.args.codes _ _ c.requires.1)

pub write_variables-second-requires : goal.write_variables-second-requires
write_variables-second-requires c =
    variables_room _ _ _ _ (table_room _ _ c.requires.0 c.new-words.ensures c.args.codes _ _ c.requires.1) c.write_counts-first.ensures

pub write_slots-third-requires : goal.write_slots-third-requires
write_slots-third-requires c = (
  search rules,
  search rules,
  params_room _ _ _ _ (table_room _ _ c.requires.0 c.new-words.ensures c.args.codes _ _ c.requires.1) c.write_counts-first.ensures c.write_variables-second.ensures,
)

pub write_slots-requires : goal.write_slots-requires
write_slots-requires c = (
  search rules,
  search rules,
  rows_room _ _ _ _ (table_room _ _ c.requires.0 c.new-words.ensures c.args.codes _ _ c.requires.1) c.write_counts-first.ensures c.write_variables-second.ensures
      c.write_slots-third.ensures,
)

pub returns : goal.returns
returns c =
    written _ _ _ _ (table_room _ _ c.requires.0 c.new-words.ensures c.args.codes _ _ c.requires.1) c.write_counts-first.ensures c.write_variables-second.ensures
    c.write_slots-third.ensures _
    (same_text _ _ c.new-words.ensures _ _ _)
    c.write_slots.ensures
