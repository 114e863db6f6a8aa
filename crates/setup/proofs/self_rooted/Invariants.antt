-- `setup::self_rooted`: the nodes below x are roots.
use Rattle.setup.specs.Passes.{SelfRooted}
use Rattle.setup.proofs.self_rooted.Given as goal

abbrev pub invariant-loop-x : goal.invariant-loop-x
invariant-loop-x l = SelfRooted l.x l.parent
