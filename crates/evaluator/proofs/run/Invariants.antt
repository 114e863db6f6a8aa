use Rattle.moves.specs.Moves.{left}
use Rattle.evaluator.proofs.Running.{Continues}
use Rattle.evaluator.proofs.run.Given as goal

abbrev pub invariant-loop-answer : goal.invariant-loop-answer
invariant-loop-answer l = Continues l.terms l.words l.budget l.initial.frames l.initial.p l.cells l.frames l.p

abbrev pub decreases-loop-answer : goal.decreases-loop-answer
decreases-loop-answer l = left l.budget l.frames l.p
