use Rattle.script.proofs.Replying.{redeclare_small}
use borrow.Author.Rules.{rules}
use Rattle.script.proofs.redeclare.Goals as goal

pub told-requires : goal.told-requires
told-requires g c = (search (redeclare_small, rules), search rules)

pub returns : goal.returns
returns g c = (c.redeclare.result, c.redeclare.ensures, c.told.ensures.0, c.told.ensures.1)
