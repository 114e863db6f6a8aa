-- The entries left, written to the present bytes, give the whole.
use mathlib.Core.Path.{refl, ◌∙◌}
use Rattle.table.specs.Lists.{lists}
use Rattle.test_table_export.proofs.Turns.{entry_written, entries_written, no_room, all_entries}
use Rattle.test_table_export.proofs.dump.dump.Goals as goal

pub returns-then-entries-lt3840 : goal.returns-then-entries-lt3840
returns-then-entries-lt3840 c = no_room _ _ c.if-entries-lt3840.true

pub loop-k-init : goal.loop-k-init
loop-k-init c = (refl, refl)

pub loop-k-preserved : goal.loop-k-preserved
loop-k-preserved c = (c.put.auto.entries ∙ c.loop-k.invariant.0, entry_written (lists c.args.table) c.loop-k.k c.loop-k.entries _ _ _ c.loop-k-test.true c.loop-k.invariant.1 c.entry.ensures c.put.ensures)

pub shape_of-entries : goal.shape_of-entries
shape_of-entries c = c.loop-k.invariant.0

pub returns : goal.returns
returns c = entries_written (lists c.args.table) c.loop-k.k _ _ c.loop-k-test.false c.loop-k.invariant.1 ∙ all_entries _ _ c.if-entries-lt3840.false
