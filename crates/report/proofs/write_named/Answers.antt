-- The table spells the names.
use borrow.Author.Rules.{rules}
use Rattle.report.proofs.Text.{named_room, named_wrote}
use Rattle.report.proofs.write_named.Goals as goal

pub write_qualifier-requires : goal.write_qualifier-requires
write_qualifier-requires c = search (named_room, rules)

pub returns : goal.returns
returns c = search (named_wrote, rules)
