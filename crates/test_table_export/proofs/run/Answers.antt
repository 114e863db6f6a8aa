-- The calls left, made on the present table, leave what all calls leave, and their numbers complete those written.
use mathlib.Core.Path.{refl, ap, ◌∙◌}
use lib.ListN.{length-set}
use lib.Seq.{sets}
use Rattle.scheme.specs.Six.{six_table}
use Rattle.model.specs.Machine.{fresh_machine}
use Rattle.test_table_export.specs.Script.{calls_from, numbers_of, machine_after}
use Rattle.test_table_export.proofs.Turns.{part_whole, machine_starts, numbers_start, call_left, number_left, calls_done}
use Rattle.test_table_export.proofs.run.Goals as goal

pub loop-i-init : goal.loop-i-init
loop-i-init c = (
  refl,
  machine_starts c.args.script.now _ c.min-calls.result c.fresh-table.ensures.0,
  numbers_start c.args.script.now _ c.min-calls.result c.fresh-table.ensures.0 c.args.numbers.now,
)

pub answer-answered-requires : goal.answer-answered-requires
answer-answered-requires c = part_whole _ _ _ _ c.min-calls.ensures c.loop-i-test.true

pub loop-i-preserved : goal.loop-i-preserved
loop-i-preserved c = (
  simp length-set c.loop-i.invariant.0,
  call_left c.args.script.now c.loop-i.table _ c.loop-i.i c.loop-i.numbers _ _ c.loop-i.invariant.1 c.loop-i.invariant.2 c.loop-i-test.true
      _ c.answer-answered.ensures,
  number_left c.args.script.now c.loop-i.table _ c.loop-i.i c.loop-i.numbers _ _ c.loop-i.invariant.1 c.loop-i.invariant.2
      c.loop-i-test.true _ c.answer-answered.ensures,
)

pub shape_of-numbers : goal.shape_of-numbers
shape_of-numbers c = c.loop-i.invariant.0

pub returns : goal.returns
returns c = let a = c.args in
    let done = calls_done a.script.now c.loop-i.table c.min-calls.result c.loop-i.i c.loop-i.numbers _ _ c.loop-i.invariant.1 c.loop-i.invariant.2 c.loop-i-test.false in record { after = done.0 ∙ ap (λ n. machine_after (fresh_machine six_table) (calls_from a.script.now 0 n)) c.min-calls.ensures; returned = done.1 ∙ ap (λ n. sets a.numbers.now 0 (numbers_of (fresh_machine six_table) (calls_from a.script.now 0 n))) c.min-calls.ensures }
