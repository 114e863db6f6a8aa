-- The loop has left to write the lines of the variables from k on.
use Prim.Native.Nat.{◌-◌}
use Rattle.model.specs.Report.{lines}
use Rattle.report.specs.Writing.{words_in, variable_at}
use Rattle.report.proofs.Writing.{Left}
use Rattle.report.proofs.write_variables.Given as goal

abbrev pub invariant-loop-k : goal.invariant-loop-k
invariant-loop-k l = Left l.buffer l.next (lines (variable_at (words_in l.words.bytes) l.variables) l.k (64 - l.k)) l.initial.buffer l.at (lines (variable_at (words_in l.words.bytes) l.variables) 0 64)
