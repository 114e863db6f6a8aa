-- The names before name k are whole, and the rest of the text has what the others lack.
use lib.ListN.{drop}
use Rattle.model.specs.Line.{fields}
use Rattle.report.proofs.Tables.{Making}
use Rattle.report.proofs.WordTable.new.Given as goal

abbrev pub invariant-loop-byte : goal.invariant-loop-byte
invariant-loop-byte l = Making (fields l.names) l.bytes l.k (fields (drop l.byte-index l.names))
