-- `forest::find`: the invariant is that the present node is reached from the first; the node falls with each turn.
use native.Mathlib.Omega.{arith}
use Rattle.forest.specs.Forest.{here, further}
use Rattle.forest.proofs.Links.{two_up}
use Rattle.forest.proofs.find.Goals as goal

pub loop-node-init : goal.loop-node-init
loop-node-init c = (omega arith, here)

pub returns-then-above-next : goal.returns-then-above-next
returns-then-above-next c = let up = two_up c.requires.fact_1 c.loop-node.at (omega arith) in
    record { low = omega arith; root = cc; reached = further c.loop-node.invariant.1 (omega arith) }

pub loop-node-preserved : goal.loop-node-preserved
loop-node-preserved c = let up = two_up c.requires.fact_1 c.loop-node.at (omega arith) in
    (omega arith, further (further c.loop-node.invariant.1 (omega arith)) (omega arith))
