-- The lines that were passed, and those of the rest, are all lines; each turn passes one.
use borrow.Author.Rules.{rules}
use Rattle.schemes.proofs.Lines.{counts}
use Rattle.schemes.proofs.file.count.Goals as goal

pub loop-from-init : goal.loop-from-init
loop-from-init c = search (counts, rules)

pub overflow_add-from : goal.overflow_add-from
overflow_add-from c = search (counts, rules)

pub loop-from-preserved : goal.loop-from-preserved
loop-from-preserved c = search (counts, rules)

pub returns : goal.returns
returns c = search (counts, rules)
