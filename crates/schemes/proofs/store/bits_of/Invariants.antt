-- The digits of the first k lines are stored.
use Rattle.schemes.specs.Stored.{Stored}
use Rattle.schemes.proofs.store.bits_of.Given as goal

abbrev pub invariant-loop-k : goal.invariant-loop-k
invariant-loop-k l = Stored l.file l.k l.all
