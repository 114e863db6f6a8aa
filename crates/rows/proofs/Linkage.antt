-- What a link finds of this crate's functions, in a world that holds its table: `answered` links the code of `judge` to say that it returns.
use mathlib.Core.Bool.{true}
use prog.Linked.{Tree, World, Holds, in_world}
use prog.LinkedThreads.{HasT}
use Rattle.rows.proofs.step.Symbol as step
use Rattle.rows.proofs.TheLink as link

abbrev pub table : Tree
table = link.table

abbrev pub Below : World → Type 0
Below = link.Below

pub linked_step : (W : World) → Holds W "rows" table → Below W → HasT (in_world W) true step.code
linked_step = link.linked-rows::step
