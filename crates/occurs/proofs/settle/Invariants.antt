-- `occurs::settle`: the parents stay, and the kinds are what Settling says of the nodes passed.
use Rattle.std.specs.Prelude.{◌≡◌}
use Rattle.occurs.proofs.Settling.{Settling}
use Rattle.occurs.proofs.settle.Given as goal

abbrev pub invariant-loop-node : goal.invariant-loop-node
invariant-loop-node l = (l.types.parents ≡ l.initial.types.parents) × Settling l.initial.types.parents l.initial.types.kinds l.types.kinds l.node
