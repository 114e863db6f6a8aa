-- What a link finds of this crate's functions, in a world that holds its table: `answered` links the code of `judge` to say that it returns.
use mathlib.Core.Bool.{true}
use prog.Linked.{Tree, World, Holds, in_world}
use prog.LinkedThreads.{HasT}
use Rattle.table.proofs.Table.parameters.Symbol as Table_parameters
use Rattle.table.proofs.Table.term_rows.Symbol as Table_term_rows
use Rattle.table.proofs.Table.type_rows.Symbol as Table_type_rows
use Rattle.table.proofs.TheLinks.table-Table-parameters as parameters_link
use Rattle.table.proofs.TheLinks.table-Table-term_rows as term_rows_link
use Rattle.table.proofs.TheLinks.table-Table-type_rows as type_rows_link
use Rattle.table.proofs.TheLinks.table-filled as filled_link
use Rattle.table.proofs.filled.Symbol as filled
use Rattle.table.proofs.TheLink as link
pub use Rattle.checks.proofs.Linkage as checks

abbrev pub table : Tree
table = link.table

-- What `infer` calls of this crate calls `filled` alone, so that what the other functions call has not to be linked.
linked_filled : (W : World) → Holds W "table" table → HasT (in_world W) true filled.code
linked_filled = λ W holds. filled_link.has (in_world W) true (link.found-table::filled W holds)

pub linked_Table_parameters : (W : World) → Holds W "table" table → HasT (in_world W) true Table_parameters.code
linked_Table_parameters = λ W holds. parameters_link.has (in_world W) true (link.found-table::Table::parameters W holds) (linked_filled W holds)

pub linked_Table_term_rows : (W : World) → Holds W "table" table → HasT (in_world W) true Table_term_rows.code
linked_Table_term_rows = λ W holds. term_rows_link.has (in_world W) true (link.found-table::Table::term_rows W holds) (linked_filled W holds)

pub linked_Table_type_rows : (W : World) → Holds W "table" table → HasT (in_world W) true Table_type_rows.code
linked_Table_type_rows = λ W holds. type_rows_link.has (in_world W) true (link.found-table::Table::type_rows W holds) (linked_filled W holds)
