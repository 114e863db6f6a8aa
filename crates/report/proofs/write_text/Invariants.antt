-- The loop has left to write the rest of the text.
use Prim.Native.Nat.{◌+◌}
use lib.ListN.{drop}
use Rattle.report.proofs.Writing.{Left}
use Rattle.report.proofs.write_text.Given as goal

abbrev pub invariant-loop-i : goal.invariant-loop-i
invariant-loop-i l = Left l.buffer (l.at + l.i) (drop l.i l.text) l.initial.buffer l.at l.text
