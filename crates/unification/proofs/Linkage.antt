-- What a link finds of this crate's functions, in a world that holds its table: `answered` links the code of `judge` to say that it returns.
use mathlib.Core.Bool.{true}
use prog.Linked.{Tree, World, Holds, in_world}
use prog.LinkedThreads.{HasT}
use Rattle.unification.proofs.make_int.Symbol as make_int
use Rattle.unification.proofs.unify.Symbol as unify
use Rattle.unification.proofs.TheLink as link

abbrev pub table : Tree
table = link.table

abbrev pub Below : World → Type 0
Below = link.Below

pub linked_make_int : (W : World) → Holds W "unification" table → Below W → HasT (in_world W) true make_int.code
linked_make_int = link.linked-unification::make_int

pub linked_unify : (W : World) → Holds W "unification" table → Below W → HasT (in_world W) true unify.code
linked_unify = link.linked-unification::unify
