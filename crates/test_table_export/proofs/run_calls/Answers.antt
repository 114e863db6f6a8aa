-- The table that the calls leave is written out and counted.
use mathlib.Core.Path.{ap, ◌∙◌}
use Rattle.test_table_export.specs.Dump.{dumped}
use Rattle.test_table_export.proofs.Turns.{sizes_are}
use Rattle.test_table_export.proofs.run_calls.Goals as goal

pub returns : goal.returns
returns c = record { counts = sizes_are _ _ _ _ _ c.run-table.ensures.after c.type_rows.ensures.0 c.parameters.ensures.0 c.term_rows.ensures.0; returned = c.run-table.ensures.returned; written = c.dump.ensures ∙ ap (λ m. dumped m c.args.entries.now) c.run-table.ensures.after }
