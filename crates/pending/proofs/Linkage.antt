-- What a link finds of this crate's functions, in a world that holds its table: `answered` links the code of `judge` to say that it returns.
use mathlib.Core.Bool.{true}
use prog.Linked.{Tree, World, Holds, in_world}
use prog.LinkedThreads.{HasT}
use Rattle.pending.proofs.gather.add_params.Symbol as gather_add_params
use Rattle.pending.proofs.gather.add_types.Symbol as gather_add_types
use Rattle.pending.proofs.Pending.look_through.Symbol as look_through
use Rattle.pending.proofs.shapes.fix.Symbol as shapes_fix
use Rattle.pending.proofs.TheLink as link

abbrev pub table : Tree
table = link.table

abbrev pub Below : World → Type 0
Below = link.Below

pub linked_gather_add_params : (W : World) → Holds W "pending" table → Below W → HasT (in_world W) true gather_add_params.code
linked_gather_add_params = link.linked-pending::gather::add_params

pub linked_gather_add_types : (W : World) → Holds W "pending" table → Below W → HasT (in_world W) true gather_add_types.code
linked_gather_add_types = link.linked-pending::gather::add_types

pub linked_look_through : (W : World) → Holds W "pending" table → Below W → HasT (in_world W) true look_through.code
linked_look_through = link.linked-pending::Pending::look_through

pub linked_shapes_fix : (W : World) → Holds W "pending" table → Below W → HasT (in_world W) true shapes_fix.code
linked_shapes_fix = link.linked-pending::shapes::fix
