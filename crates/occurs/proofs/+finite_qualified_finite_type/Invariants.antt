-- `occurs::finite_qualified` and `finite_type` end since a node that was not seen is seen.
use Prim.Native.Nat.{◌+◌, ◌*◌}
use Rattle.occurs.specs.Marks.{unseen}
use Rattle.occurs.proofs.+finite_qualified_finite_type.Given as goal

abbrev pub decreases-finite_qualified : goal.decreases-finite_qualified
decreases-finite_qualified l = 2 * unseen l.marks.now + 1

abbrev pub decreases-finite_type : goal.decreases-finite_type
decreases-finite_type l = 2 * unseen l.marks.now
