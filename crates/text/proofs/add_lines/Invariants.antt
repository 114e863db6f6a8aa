-- The lines left, added to the present table, come to what all lines come to; the marks are those of its rows; each turn leaves fewer bytes.
use Prim.Native.Nat.{◌-◌}
use lib.ListN.{length}
use Rattle.schemes.specs.Schemes.{table_in}
use Rattle.text.proofs.Turns.{Filling}
use Rattle.text.proofs.add_lines.Given as goal

abbrev pub invariant-loop-from : goal.invariant-loop-from
invariant-loop-from l = Filling (table_in l.initial.table.schemes) l.names l.text l.table l.marks l.from l.line

abbrev pub decreases-loop-from : goal.decreases-loop-from
decreases-loop-from l = length l.text - l.from
