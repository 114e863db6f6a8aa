-- An entry that stands is the array's; else the bytes are 0.
use Prim.Native.Nat.{◌<◌}
use mathlib.Core.Path.{sym, ap, subst, ◌∙◌}
use Rattle.table.proofs.Entries.{param_at_lem}
use Rattle.test_table_export.specs.Dump.{param_bytes}
use Rattle.test_table_export.proofs.Bytes.{standing, absent}
use Rattle.test_table_export.proofs.dump.param_entry.Goals as goal

pub returns-then-p-parameters : goal.returns-then-p-parameters
returns-then-p-parameters c = (c.param_bytes.ensures ∙ ap (λ row. param_bytes row) (sym (param_at_lem c.args.table c.args.p (subst (λ n. c.args.p < n) c.parameters.ensures.0 c.if-p-parameters.true)))) ∙ standing _ _ _ c.parameters.ensures.0 _ c.if-p-parameters.true

pub returns : goal.returns
returns c = absent _ _ _ c.parameters.ensures.0 _ c.if-p-parameters.false
