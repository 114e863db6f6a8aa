-- The numbers are put one LAM after the other; what is known where the loop turns is `Underway`.
use Rattle.leading.proofs.Underway.{Underway}
use Rattle.leading.proofs.lead.Given as goal

abbrev pub invariant-loop-j : goal.invariant-loop-j
invariant-loop-j l = Underway l.terms l.count l.codes l.numbers l.frames l.row l.j
