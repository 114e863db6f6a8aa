-- Each range of numbers has its own list.
use mathlib.Core.Path.{◌∙◌}
use Rattle.test_table_export.proofs.Bytes.{type_place, param_place, term_place}
use Rattle.test_table_export.proofs.dump.entry.Goals as goal

pub returns-then-k-lt64 : goal.returns-then-k-lt64
returns-then-k-lt64 c = c.type_entry.ensures ∙ type_place _ _ c.if-k-lt64.true

pub returns-then-k-lt128 : goal.returns-then-k-lt128
returns-then-k-lt128 c = c.param_entry.ensures ∙ param_place _ _ c.if-k-lt64.false c.if-k-lt128.true

pub returns : goal.returns
returns c = c.term_entry.ensures ∙ term_place _ _ c.if-k-lt64.false c.if-k-lt128.false
