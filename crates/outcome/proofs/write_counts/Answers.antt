-- Each number with the byte that ends it.
use borrow.Author.Rules.{rules}
use Rattle.report.proofs.Fields.{last_room, last_wrote, first_room, rest_room, rest_wrote}
use Rattle.outcome.proofs.write_counts.Goals as goal

pub write_number-next-requires : goal.write_number-next-requires
write_number-next-requires c = search (first_room, rules)

pub write_number-requires : goal.write_number-requires
write_number-requires c = search (last_room, rest_room, rules)

pub returns : goal.returns
returns c = search (rest_wrote, last_wrote, rules)
