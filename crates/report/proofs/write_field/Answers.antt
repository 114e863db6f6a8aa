-- The text, and the byte that ends the field.
use borrow.Author.Rules.{rules}
use Rattle.report.proofs.Writing.{wrote_ended}
use Rattle.report.proofs.write_field.Goals as goal

pub returns : goal.returns
returns c = search (wrote_ended, rules)
