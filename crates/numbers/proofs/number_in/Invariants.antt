-- The reader has, at each turn, been fed the bytes before the present one.
use Rattle.numbers.proofs.Passes.{Passed}
use Rattle.numbers.proofs.number_in.Given as goal

abbrev pub invariant-loop-b : goal.invariant-loop-b
invariant-loop-b l = Passed l.s 0 l.b-index l.field
