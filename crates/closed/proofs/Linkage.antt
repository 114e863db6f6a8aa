-- What a link finds of this crate's functions, in a world that holds its table: `answered` links the code of `judge` to say that it returns.
use mathlib.Core.Bool.{true}
use prog.Linked.{Tree, World, Holds, in_world}
use prog.LinkedThreads.{HasT}
use Rattle.closed.proofs.is_closed.Symbol as is_closed
use Rattle.closed.proofs.TheLink as link

abbrev pub table : Tree
table = link.table

abbrev pub Below : World → Type 0
Below = link.Below

pub linked_is_closed : (W : World) → Holds W "closed" table → Below W → HasT (in_world W) true is_closed.code
linked_is_closed = link.linked-closed::is_closed
