-- Field 1 of the line.
use borrow.Author.Rules.{rules}
use Rattle.schemes.proofs.Lines.{name_is}
use Rattle.schemes.proofs.file.name.Goals as goal

pub returns : goal.returns
returns c = search (name_is, rules)
