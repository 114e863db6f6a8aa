-- At each turn the set, with what the rows from i on bind, is what all rows bind.
use Rattle.closed.proofs.Gathering.{Gathered}
use Rattle.closed.proofs.binders.Given as goal

abbrev pub invariant-loop-i : goal.invariant-loop-i
invariant-loop-i l = Gathered l.table l.i l.set
