-- `occurs::all_finite`: the invariant is what Between says of the nodes passed.
use native.Mathlib.Omega.{arith}
use Rattle.occurs.proofs.Marks.{between_fresh}
use Rattle.occurs.proofs.Search.{searched}
use Rattle.occurs.proofs.all_finite.Goals as goal

pub loop-node-init : goal.loop-node-init
loop-node-init c = between_fresh

pub returns : goal.returns
returns c = searched c.requires.fact_3.1 (λ x h. c.loop-node.invariant.below x (omega arith))
