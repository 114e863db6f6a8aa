-- An entry that stands is the array's; else the bytes are 0.
use Prim.Native.Nat.{◌<◌}
use mathlib.Core.Path.{sym, ap, subst, ◌∙◌}
use Rattle.table.proofs.Entries.{row_at}
use Rattle.test_table_export.specs.Dump.{term_bytes}
use Rattle.test_table_export.proofs.Bytes.{standing, absent}
use Rattle.test_table_export.proofs.dump.term_entry.Goals as goal

pub returns-then-i-term_rows : goal.returns-then-i-term_rows
returns-then-i-term_rows c = (c.term_bytes.ensures ∙ ap (λ row. term_bytes row.term) (sym (row_at c.args.table c.args.i (subst (λ n. c.args.i < n) c.term_rows.ensures.0 c.if-i-term_rows.true)))) ∙ standing _ _ _ c.term_rows.ensures.0 _ c.if-i-term_rows.true

pub returns : goal.returns
returns c = absent _ _ _ c.term_rows.ensures.0 _ c.if-i-term_rows.false
