-- The text has the names of the first k lines.
use Rattle.schemes.specs.Stored.{NamesHeld}
use Rattle.schemes.proofs.store.names_of.Given as goal

abbrev pub invariant-loop-k : goal.invariant-loop-k
invariant-loop-k l = NamesHeld l.file l.k l.joined
