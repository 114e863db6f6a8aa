-- The reader has, at each turn, been fed the bytes before the present one.
use borrow.Author.Rules.{rules}
use Rattle.numbers.proofs.Passes.{passes}
use Rattle.numbers.proofs.number_in.Goals as goal

pub loop-b-preserved : goal.loop-b-preserved
loop-b-preserved c = search (passes, rules)

pub returns : goal.returns
returns c = search (passes, rules)
