-- What a link finds of this crate's functions, in a world that holds its table: `answered` links the code of `judge` to say that it returns.
use mathlib.Core.Bool.{true}
use prog.Linked.{Tree, World, Holds, in_world}
use prog.LinkedThreads.{HasT}
use Rattle.occurs.proofs.all_finite.Symbol as all_finite
use Rattle.occurs.proofs.finite_from.Symbol as finite_from
use Rattle.occurs.proofs.settle.Symbol as settle
use Rattle.occurs.proofs.TheLink as link

abbrev pub table : Tree
table = link.table

abbrev pub Below : World → Type 0
Below = link.Below

pub linked_all_finite : (W : World) → Holds W "occurs" table → Below W → HasT (in_world W) true all_finite.code
linked_all_finite = link.linked-occurs::all_finite

pub linked_finite_from : (W : World) → Holds W "occurs" table → Below W → HasT (in_world W) true finite_from.code
linked_finite_from = link.linked-occurs::finite_from

pub linked_settle : (W : World) → Holds W "occurs" table → Below W → HasT (in_world W) true settle.code
linked_settle = link.linked-occurs::settle
