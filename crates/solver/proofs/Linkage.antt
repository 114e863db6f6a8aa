-- What a link finds of this crate's functions, in a world that holds its table: `answered` links the code of `judge` to say that it returns.
use mathlib.Core.Bool.{true}
use prog.Linked.{Tree, World, Holds, in_world}
use prog.LinkedThreads.{HasT}
use Rattle.solver.proofs.solve.Symbol as solve
use Rattle.solver.proofs.TheLink as link
pub use Rattle.layout.proofs.Linkage as layout
pub use Rattle.forest.proofs.Linkage as forest
pub use Rattle.graph.proofs.Linkage as graph
pub use Rattle.qualifiers.proofs.Linkage as qualifiers
pub use Rattle.setup.proofs.Linkage as setup
pub use Rattle.unification.proofs.Linkage as unification
pub use Rattle.occurs.proofs.Linkage as occurs
pub use Rattle.pending.proofs.Linkage as pending
pub use Rattle.rows.proofs.Linkage as rows
pub use Rattle.slots.proofs.Linkage as slots

abbrev pub table : Tree
table = link.table

abbrev pub Below : World → Type 0
Below = link.Below

pub linked_solve : (W : World) → Holds W "solver" table → Below W → HasT (in_world W) true solve.code
linked_solve = link.linked-solver::solve
