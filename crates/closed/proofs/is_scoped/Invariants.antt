-- The walk of proofs/Walk: a row is passed after its parent, and has the set of the parameters in scope there.
use Rattle.table.specs.Lists.{lists}
use Rattle.closed.proofs.Walk.{Walked}
use Rattle.closed.proofs.is_scoped.Given as goal

abbrev pub invariant-loop-i : goal.invariant-loop-i
invariant-loop-i l = Walked (lists l.table) l.scopes l.i
