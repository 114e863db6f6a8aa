-- `forest::find`: the invariant is that the present node is reached from the first; the node falls with each turn.
use Prim.Native.Nat.{◌≤◌}
use Rattle.forest.specs.Forest.{Reach}
use Rattle.forest.proofs.find.Given as goal

abbrev pub invariant-loop-node : goal.invariant-loop-node
invariant-loop-node l = (l.at ≤ l.node) × Reach l.parent l.node l.at

abbrev pub decreases-loop-node : goal.decreases-loop-node
decreases-loop-node l = l.at
