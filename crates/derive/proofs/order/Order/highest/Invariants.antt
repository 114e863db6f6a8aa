-- The first o places hold their highest.
use Rattle.derive.proofs.Filling.{HighestTo}
use Rattle.derive.proofs.order.Order.highest.Given as goal

abbrev pub invariant-loop-o : goal.invariant-loop-o
invariant-loop-o l = HighestTo l.self.below l.self.words l.bits l.highest l.o
