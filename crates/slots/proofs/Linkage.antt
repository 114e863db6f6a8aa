-- What a link finds of this crate's functions, in a world that holds its table: `answered` links the code of `judge` to say that it returns.
use mathlib.Core.Bool.{true}
use prog.Linked.{Tree, World, Holds, in_world}
use prog.LinkedThreads.{HasT}
use Rattle.slots.proofs.fill.Symbol as fill
use Rattle.slots.proofs.TheLink as link

abbrev pub table : Tree
table = link.table

abbrev pub Below : World → Type 0
Below = link.Below

pub linked_fill : (W : World) → Holds W "slots" table → Below W → HasT (in_world W) true fill.code
linked_fill = link.linked-slots::fill
