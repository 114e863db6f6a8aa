-- What a link finds of this crate's functions, in a world that holds its table: `answered` links the code of `judge` to say that it returns.
use mathlib.Core.Bool.{true}
use prog.Linked.{Tree, World, Holds, in_world}
use prog.LinkedThreads.{HasT}
use Rattle.schemes.proofs.front.Symbol as front
use Rattle.schemes.proofs.TheLinks.schemes-front as front_link
use Rattle.schemes.proofs.TheLink as link

abbrev pub table : Tree
table = link.table

-- `front` calls no other function.
pub linked_front : (W : World) → Holds W "schemes" table → HasT (in_world W) true front.code
linked_front = λ W holds. front_link.has (in_world W) true (link.found-schemes::front W holds)
