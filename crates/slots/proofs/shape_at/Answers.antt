-- Within the nodes by the kind's code, and past them the kind is unknown.
use Rattle.slots.proofs.Shapes.{past_code}
use Rattle.slots.proofs.shape_at.Goals as goal

pub returns : goal.returns
returns c = past_code c.args.kinds.now _ c.if-node-kinds.false
