-- Each turn reads one word more; the array has a place for each.
use Rattle.command.proofs.Numbers.{Counted}
use Rattle.command.proofs.arguments.Given as goal

abbrev pub invariant-loop-k : goal.invariant-loop-k
invariant-loop-k l = Counted l.s l.into l.k l.from
