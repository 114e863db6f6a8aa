-- What a link finds of this crate's functions, in a world that holds its table: `answered` links the code of `judge` to say that it returns.
use mathlib.Core.Bool.{true}
use prog.Linked.{Tree, World, Holds, in_world}
use prog.LinkedThreads.{HasT}
use Rattle.report.proofs.write.Symbol as write
use Rattle.report.proofs.write_pair.Symbol as write_pair
use Rattle.report.proofs.TheLink as link

abbrev pub table : Tree
table = link.table

abbrev pub Below : World → Type 0
Below = link.Below

pub linked_write : (W : World) → Holds W "report" table → Below W → HasT (in_world W) true write.code
linked_write = link.linked-report::write

pub linked_write_pair : (W : World) → Holds W "report" table → Below W → HasT (in_world W) true write_pair.code
linked_write_pair = link.linked-report::write_pair
