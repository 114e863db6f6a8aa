use Rattle.script.proofs.Replying.{take_back_small}
use borrow.Author.Rules.{rules}
use Rattle.script.proofs.take_back.Goals as goal

pub told-requires : goal.told-requires
told-requires g c = (search (take_back_small, rules), search rules)

pub returns : goal.returns
returns g c = (c.take_back.result, c.take_back.ensures, c.told.ensures.0, c.told.ensures.1)
