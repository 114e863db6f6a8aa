use Rattle.script.proofs.Replying.{add_small}
use borrow.Author.Rules.{rules}
use Rattle.script.proofs.add.Goals as goal

pub told-requires : goal.told-requires
told-requires g c = (search (add_small, rules), search rules)

pub returns : goal.returns
returns g c = (c.add.result, c.add.ensures, c.told.ensures.0, c.told.ensures.1)
