-- What a link finds of this crate's functions, in a world that holds its table: `answered` links the code of `judge` to say that it returns.
use mathlib.Core.Bool.{true}
use prog.Linked.{Tree, World, Holds, in_world}
use prog.LinkedThreads.{HasT}
use Rattle.graph.proofs.part.Symbol as part
use Rattle.graph.proofs.TheLink as link

abbrev pub table : Tree
table = link.table

abbrev pub Below : World → Type 0
Below = link.Below

pub linked_part : (W : World) → Holds W "graph" table → Below W → HasT (in_world W) true part.code
linked_part = link.linked-graph::part
