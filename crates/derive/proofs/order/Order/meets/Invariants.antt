-- The first i places hold their meets.
use Rattle.derive.proofs.Filling.{MeetsTo}
use Rattle.derive.proofs.order.Order.meets.Given as goal

abbrev pub invariant-loop-i : goal.invariant-loop-i
invariant-loop-i l = MeetsTo l.self.below l.self.words l.meets l.i
