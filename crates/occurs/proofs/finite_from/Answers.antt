-- `occurs::finite_from`: with fresh marks nothing is on the way.
use Rattle.occurs.proofs.Marks.{between_fresh, between_way}
use Rattle.occurs.proofs.finite_from.Goals as goal

pub finite_qualified-requires-clause-way : goal.finite_qualified-requires-clause-way
finite_qualified-requires-clause-way c = between_way _ between_fresh
