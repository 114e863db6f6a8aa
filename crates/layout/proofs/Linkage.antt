-- What a link finds of this crate's functions, in a world that holds its table: `answered` links the code of `judge` to say that it returns.
use mathlib.Core.Bool.{true}
use prog.Linked.{Tree, World, Holds, in_world}
use prog.LinkedThreads.{HasT}
use Rattle.layout.proofs.arrow.Symbol as arrow
use Rattle.layout.proofs.row_qualifier.Symbol as row_qualifier
use Rattle.layout.proofs.row_type.Symbol as row_type
use Rattle.layout.proofs.TheLink as link

abbrev pub table : Tree
table = link.table

abbrev pub Below : World → Type 0
Below = link.Below

pub linked_arrow : (W : World) → Holds W "layout" table → Below W → HasT (in_world W) true arrow.code
linked_arrow = link.linked-layout::arrow

pub linked_row_qualifier : (W : World) → Holds W "layout" table → Below W → HasT (in_world W) true row_qualifier.code
linked_row_qualifier = link.linked-layout::row_qualifier

pub linked_row_type : (W : World) → Holds W "layout" table → Below W → HasT (in_world W) true row_type.code
linked_row_type = link.linked-layout::row_type
