-- `unification::make_int`: each exit by the kind of the root.
use Rattle.unification.proofs.Merging.{at_root}
use Rattle.unification.proofs.Answering.{int_made, int_known}
use Rattle.unification.proofs.make_int.Goals as goal

pub returns-then-k-eq-UNKNOWN : goal.returns-then-k-eq-UNKNOWN
returns-then-k-eq-UNKNOWN c = int_made (at_root c.requires.fact_1 c.requires.fact_2 c.root-r.ensures) c.if-k-eq-UNKNOWN.true

pub returns : goal.returns
returns c = int_known (at_root c.requires.fact_1 c.requires.fact_2 c.root-r.ensures) c.if-k-eq-UNKNOWN.false
