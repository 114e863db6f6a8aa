-- What a link finds of this crate's functions, in a world that holds its table: `answered` links the code of `judge` to say that it returns.
use mathlib.Core.Bool.{true}
use prog.Linked.{Tree, World, Holds, in_world}
use prog.LinkedThreads.{HasT}
use Rattle.checks.proofs.term.children_of.Symbol as term_children_of
use Rattle.checks.proofs.TheLinks.checks-term-children_of as children_of_link
use Rattle.checks.proofs.TheLink as link

abbrev pub table : Tree
table = link.table

-- `children_of` calls nothing, so that what the other functions call has not to be linked.
pub linked_term_children_of : (W : World) → Holds W "checks" table → HasT (in_world W) true term_children_of.code
linked_term_children_of = λ W holds. children_of_link.has (in_world W) true (link.found-checks::term::children_of W holds)
