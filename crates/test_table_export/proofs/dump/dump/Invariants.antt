-- The entries left, written to the present bytes, give the whole.
use Prim.Native.Nat.{◌-◌}
use mathlib.Core.Path.{◌≡◌}
use lib.ListN.{length}
use Rattle.table.specs.Lists.{lists}
use Rattle.test_table_export.specs.Dump.{dumped_from}
use Rattle.test_table_export.proofs.dump.dump.Given as goal

abbrev pub invariant-loop-k : goal.invariant-loop-k
invariant-loop-k l = (length l.entries ≡ length l.initial.entries) × (dumped_from (lists l.table) l.k (384 - l.k) l.entries ≡ dumped_from (lists l.table) 0 384 l.initial.entries)
