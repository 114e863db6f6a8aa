-- `occurs::settle`: the parents stay, and the kinds are what Settling says of the nodes passed.
use native.Mathlib.Omega.{arith}
use Rattle.occurs.proofs.Settling.{settled}
use Rattle.occurs.proofs.settle.Goals as goal

pub returns-clause-kinds : goal.returns-clause-kinds
returns-clause-kinds c = settled c.requires.fact_1 (λ x h. c.requires.fact_2.1 x (omega arith)) c.loop-node.invariant.1
