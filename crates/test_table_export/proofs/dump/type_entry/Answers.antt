-- An entry that stands is the array's; else the bytes are 0.
use Prim.Native.Nat.{◌<◌}
use mathlib.Core.Path.{sym, ap, subst, ◌∙◌}
use Rattle.table.proofs.Entries.{type_at}
use Rattle.test_table_export.specs.Dump.{type_bytes}
use Rattle.test_table_export.proofs.Bytes.{standing, absent}
use Rattle.test_table_export.proofs.dump.type_entry.Goals as goal

pub returns-then-t-type_rows : goal.returns-then-t-type_rows
returns-then-t-type_rows c = (c.type_bytes.ensures ∙ ap (λ row. type_bytes row.form) (sym (type_at c.args.table c.args.t (subst (λ n. c.args.t < n) c.type_rows.ensures.0 c.if-t-type_rows.true)))) ∙ standing _ _ _ c.type_rows.ensures.0 _ c.if-t-type_rows.true

pub returns : goal.returns
returns c = absent _ _ _ c.type_rows.ensures.0 _ c.if-t-type_rows.false
