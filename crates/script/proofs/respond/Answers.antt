-- The length is counted first, and the answers are written where there is room for all.
use Rattle.script.proofs.Conversing.{respond_written, respond_short}
use borrow.Author.Rules.{rules}
use Rattle.script.proofs.respond.Goals as goal

pub returns-then-size-output : goal.returns-then-size-output
returns-then-size-output g c = search (respond_written, rules)

pub returns : goal.returns
returns g c = search (respond_short, rules)
