-- The values of the line are, at each turn, those so far with those of the fields not yet read.
use Rattle.model.specs.Line.{fields}
use Rattle.tokens.proofs.Reading.{Reading}
use Rattle.tokens.proofs.values.read.Given as goal

abbrev pub invariant-loop-k : goal.invariant-loop-k
invariant-loop-k l = Reading (fields l.names) l.kinds l.s l.start l.v l.k l.from
