-- Nothing is taken of an array whose count is 0.
use mathlib.Core.Path.{refl}
use Rattle.table.specs.Lists.{lists}
use Rattle.table.proofs.Table.empty.Goals as goal

pub returns : goal.returns
unfolding lists
returns c = (refl, refl)
