-- Line k is, at each turn, the line of the rest that as many lines lead to as are left.
use borrow.Author.Rules.{rules}
use Rattle.schemes.proofs.Lines.{starts}
use Rattle.schemes.proofs.file.start.Goals as goal

pub loop-from-init : goal.loop-from-init
loop-from-init c = search (starts, rules)

pub returns-then-left-eq0 : goal.returns-then-left-eq0
returns-then-left-eq0 c = search (starts, rules)

pub overflow_add-from : goal.overflow_add-from
overflow_add-from c = search (starts, rules)

pub loop-from-preserved : goal.loop-from-preserved
loop-from-preserved c = search (starts, rules)

pub returns : goal.returns
returns c = search (starts, rules)
