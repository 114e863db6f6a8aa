-- The calls left, made on the present table, leave what all calls leave, and their numbers complete those written.
use Prim.Native.Nat.{◌-◌}
use mathlib.Core.Path.{◌≡◌}
use lib.ListN.{length}
use lib.Seq.{sets}
use Rattle.scheme.specs.Six.{six_table}
use Rattle.model.specs.Machine.{fresh_machine}
use Rattle.table.specs.Lists.{lists}
use Rattle.test_table_export.specs.Script.{calls_from, numbers_of, machine_after}
use Rattle.test_table_export.proofs.run.Given as goal

abbrev pub invariant-loop-i : goal.invariant-loop-i
invariant-loop-i l = (length l.numbers ≡ length l.initial.numbers)
    × (machine_after (lists l.table) (calls_from l.script l.i (l.calls - l.i)) ≡ machine_after (fresh_machine six_table) (calls_from l.script 0 l.calls))
    × (sets l.numbers l.i (numbers_of (lists l.table) (calls_from l.script l.i (l.calls - l.i))) ≡ sets l.initial.numbers 0 (numbers_of (fresh_machine six_table) (calls_from l.script 0 l.calls)))
