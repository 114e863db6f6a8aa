-- `solver::stop`: the whole search tells whether the row is known to be the least.
use Rattle.solver.proofs.stop.Goals as goal

pub returns-else-all_finite : goal.returns-else-all_finite
returns-else-all_finite c = c.all_finite.ensures.none c.if-all_finite.false
