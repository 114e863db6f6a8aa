-- `setup::start`: each array as it was made.
use borrow.Author.Rules.{rules}
use Rattle.setup.proofs.Starting.{started}
use Rattle.setup.proofs.start.Goals as goal

pub returns : goal.returns
returns c =
    started
    c.args.formkinds.now
    c.args.top
    c.self_rooted-types.ensures
    c.first_kinds-types.ensures
    c.self_rooted-qualifiers.ensures
    (search rules)
