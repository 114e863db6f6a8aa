-- What a link finds of this crate's functions, in a world that holds its table: `answered` links the code of `judge` to say that it returns.
use mathlib.Core.Bool.{true}
use prog.Linked.{Tree, World, Holds, in_world}
use prog.LinkedThreads.{HasT}
use Rattle.qualifiers.proofs.Qualifiers.restrict.Symbol as restrict
use Rattle.qualifiers.proofs.Qualifiers.settle.Symbol as settle
use Rattle.qualifiers.proofs.Qualifiers.unite.Symbol as unite
use Rattle.qualifiers.proofs.Qualifiers.unite_all.Symbol as unite_all
use Rattle.qualifiers.proofs.Qualifiers.within_bounds.Symbol as within_bounds
use Rattle.qualifiers.proofs.TheLink as link

abbrev pub table : Tree
table = link.table

abbrev pub Below : World → Type 0
Below = link.Below

pub linked_restrict : (W : World) → Holds W "qualifiers" table → Below W → HasT (in_world W) true restrict.code
linked_restrict = link.linked-qualifiers::Qualifiers::restrict

pub linked_settle : (W : World) → Holds W "qualifiers" table → Below W → HasT (in_world W) true settle.code
linked_settle = link.linked-qualifiers::Qualifiers::settle

pub linked_unite : (W : World) → Holds W "qualifiers" table → Below W → HasT (in_world W) true unite.code
linked_unite = link.linked-qualifiers::Qualifiers::unite

pub linked_unite_all : (W : World) → Holds W "qualifiers" table → Below W → HasT (in_world W) true unite_all.code
linked_unite_all = link.linked-qualifiers::Qualifiers::unite_all

pub linked_within_bounds : (W : World) → Holds W "qualifiers" table → Below W → HasT (in_world W) true within_bounds.code
linked_within_bounds = link.linked-qualifiers::Qualifiers::within_bounds
