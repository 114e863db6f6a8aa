-- The line that was read by the table's names is entered.
use mathlib.Core.Path.{◌∙◌}
use borrow.Author.Rules.{rules}
use Rattle.table.proofs.Names.{front_few, read_added}
use Rattle.table.proofs.Table.add.Goals as goal

pub read-requires : goal.read-requires
read-requires c = search (front_few, rules)

pub returns : goal.returns
returns c = (c.enter.ensures.0 ∙ read_added _ _ c.front.ensures _ _ c.read.ensures, c.enter.ensures.1)
