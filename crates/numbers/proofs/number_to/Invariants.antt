-- The same from a place on; the next such byte from the present one on is the next from that place on.
use Rattle.numbers.proofs.Passes.{Sought}
use Rattle.numbers.proofs.number_to.Given as goal

abbrev pub invariant-loop-i : goal.invariant-loop-i
invariant-loop-i l = Sought l.byte l.s l.from l.i-counter l.reader
