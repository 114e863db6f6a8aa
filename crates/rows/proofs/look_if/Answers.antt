-- `rows::look_if`: the pairs are looked through, or as they were.
use mathlib.Core.Path.{refl}
use Rattle.rows.specs.Applying.{swept, still}
use Rattle.rows.proofs.look_if.Goals as goal

pub returns-then-not-closes : goal.returns-then-not-closes
returns-then-not-closes c = still c.if-not-closes.true refl refl

pub returns : goal.returns
returns c = swept c.look_through.ensures
