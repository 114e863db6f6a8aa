-- An empty table, with the names by which its lines are read.
use Rattle.std.specs.Prelude.{List, ◌≡◌, ℕ, take}
use Rattle.tokens.specs.Names.{Few}
use Rattle.schemes.specs.Schemes.{table_in, Kept}
use Rattle.model.specs.Machine.{fresh_machine}
use Rattle.table.specs.Lists.{lists}
use Rattle.table.specs.declared.Table.{Table}

pub record Begins (table : Table) (names : List ℕ) : Type 0 where
  pub fresh : lists table ≡ fresh_machine (table_in table.schemes)
  pub kept : Kept table.schemes
  pub few : Few names
  pub front : names ≡ take table.schemes.size table.schemes.names
