-- The empty table of what the file gives.
use mathlib.Core.Path.{sym, subst}
use Rattle.schemes.specs.Schemes.{Kept}
use Rattle.table.proofs.Names.{opened_change}
use Rattle.table.proofs.Table.open.Goals as goal

pub returns : goal.returns
returns c = let reads = c.open-opened.ensures in
    (opened_change _ _ _ reads c.empty-table.ensures.0, subst Kept (sym c.empty-table.ensures.1) reads.kept)
