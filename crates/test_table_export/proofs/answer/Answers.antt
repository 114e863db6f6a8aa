-- Each way makes the call that the bytes say.
use mathlib.Core.Path.{refl, ap, ◌∙◌}
use Rattle.table.specs.Lists.{lists}
use Rattle.test_table_export.specs.Script.{answer_of}
use Rattle.test_table_export.proofs.Bytes.{call_adds, call_redeclares, call_takes_back}
use Rattle.test_table_export.proofs.answer.Goals as goal

pub returns-then-call-eq0 : goal.returns-then-call-eq0
unfolding answer_of
returns-then-call-eq0 c = c.add.ensures.0 ∙ ap (answer_of (lists c.args.table)) (call_adds _ c.requires c.if-call-eq0.true _ _ refl c.min-end.ensures)

pub returns-then-call-eq1 : goal.returns-then-call-eq1
unfolding answer_of
returns-then-call-eq1 c = c.redeclare.ensures.0 ∙ ap (answer_of (lists c.args.table)) (call_redeclares _ c.if-call-eq0.false c.if-call-eq1.true _ _ c.four_bytes.ensures c.four_bytes-then-call-eq1.ensures)

pub returns : goal.returns
unfolding answer_of
returns c = c.take_back.ensures.0 ∙ ap (answer_of (lists c.args.table)) (call_takes_back _ c.if-call-eq0.false c.if-call-eq1.false)
