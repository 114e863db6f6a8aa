-- `solver::finish`: a type that contains itself stops the run at the last row.
use Rattle.solver.proofs.finish.Goals as goal

pub returns-then-not-all_finite-clause-fact_1 : goal.returns-then-not-all_finite-clause-fact_1
returns-then-not-all_finite-clause-fact_1 c = c.all_finite.ensures.none c.if-not-all_finite.true
