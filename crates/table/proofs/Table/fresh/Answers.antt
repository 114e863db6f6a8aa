-- The empty table's schemes are the six, with their ruling.
use mathlib.Core.Path.{sym, ap, subst, ◌∙◌}
use Rattle.model.specs.Machine.{fresh_machine}
use Rattle.schemes.specs.Schemes.{Kept}
use Rattle.table.proofs.Table.fresh.Goals as goal

pub returns : goal.returns
returns c = (c.empty.ensures.0 ∙ ap fresh_machine c.six.ensures.0, subst Kept (sym c.empty.ensures.1) c.six.ensures.1)
