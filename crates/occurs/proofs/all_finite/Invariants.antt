-- `occurs::all_finite`: the invariant is what Between says of the nodes passed.
use Rattle.occurs.specs.Marks.{Between}
use Rattle.occurs.proofs.all_finite.Given as goal

abbrev pub invariant-loop-node : goal.invariant-loop-node
invariant-loop-node l = Between l.types l.kids l.marks l.node
