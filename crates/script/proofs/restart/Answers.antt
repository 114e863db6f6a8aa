use Rattle.script.proofs.Replying.{restart_small}
use borrow.Author.Rules.{rules}
use Rattle.script.proofs.restart.Goals as goal

pub told-requires : goal.told-requires
told-requires c = (search (restart_small, rules), search rules)

pub returns : goal.returns
returns c = (c.restart.result, c.restart.ensures, c.told.ensures.0, c.told.ensures.1)
