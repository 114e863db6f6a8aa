-- What infer asks of a table: every list of calls from a fresh one leaves it so.
use Rattle.schemes.specs.Schemes.{Kept}
use Rattle.model.specs.WellFormed.{WellFormed}
use Rattle.table.specs.Lists.{lists}
use Rattle.table.specs.declared.Table.{Table}

pub record Ready (t : Table) : Type 0 where
  pub is_well_formed : WellFormed (lists t)
  pub kept : Kept t.schemes
