-- What a link finds of this crate's functions, in a world that holds its table: `answered` links the code of `judge` to say that it returns.
use mathlib.Core.Bool.{true}
use prog.Linked.{Tree, World, Holds, in_world}
use prog.LinkedThreads.{HasT}
use Rattle.floors.proofs.lowest_missed.Symbol as lowest_missed
use Rattle.floors.proofs.TheLink as link

abbrev pub table : Tree
table = link.table

abbrev pub Below : World → Type 0
Below = link.Below

pub linked_lowest_missed : (W : World) → Holds W "floors" table → Below W → HasT (in_world W) true lowest_missed.code
linked_lowest_missed = link.linked-floors::lowest_missed
