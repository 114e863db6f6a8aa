-- The empty table of the schemes is where the lines begin.
use borrow.Author.Rules.{rules}
use Rattle.tokens.specs.Names.{Few}
use Rattle.table.proofs.Names.{front_few}
use Rattle.text.proofs.Turns.{empty_begins, loads_same}
use Rattle.text.proofs.load.Goals as goal

pub add_lines-requires : goal.add_lines-requires
add_lines-requires c = let few : Few c.front.result.now = search (front_few, rules) in
    empty_begins _ _ c.empty-table.ensures _ c.requires few c.front.ensures

pub returns : goal.returns
returns c = loads_same _ _ c.empty-table.ensures _ _ c.add_lines.ensures
