-- What a link finds of this crate's functions, in a world that holds its table: `answered` links the code of `judge` to say that it returns.
use mathlib.Core.Bool.{true}
use prog.Linked.{Tree, World, Holds, in_world}
use prog.LinkedThreads.{HasT}
use Rattle.inference.proofs.infer.Symbol as infer
use Rattle.inference.proofs.TheLink as link
pub use Rattle.closed.proofs.Linkage as closed
pub use Rattle.report.proofs.Linkage as report
pub use Rattle.solver.proofs.Linkage as solver
pub use Rattle.floors.proofs.Linkage as floors

abbrev pub table : Tree
table = link.table

abbrev pub Below : World → Type 0
Below = link.Below

pub linked_infer : (W : World) → Holds W "inference" table → Below W → HasT (in_world W) true infer.code
linked_infer = link.linked-inference::infer
