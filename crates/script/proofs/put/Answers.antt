-- The bytes are written where the place after them is within the output.
use Rattle.script.proofs.Conversing.{turns}
use borrow.Author.Rules.{rules}
use Rattle.script.proofs.put.Goals as goal

pub write_text-requires : goal.write_text-requires
write_text-requires c = search (turns, rules)

pub returns-then-end-output : goal.returns-then-end-output
returns-then-end-output c = search (turns, rules)

pub returns-else-end-output : goal.returns-else-end-output
returns-else-end-output c = search (turns, rules)
