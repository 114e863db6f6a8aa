-- A short answer, a refused line, or what the run came to.
use native.Mathlib.Omega.{arith}
use Rattle.dryrun.specs.Entry.{RunReturns}
use Rattle.placement.proofs.Exits.{run_stopped, run_answered}
use Rattle.placement.proofs.run_text.Goals as goal

pub returns-then-answer-lt-ANSWER : goal.returns-then-answer-lt-ANSWER
returns-then-answer-lt-ANSWER c = RunReturns.short c.if-answer-lt-ANSWER.true

pub returns-then-loaded-ne0 : goal.returns-then-loaded-ne0
returns-then-loaded-ne0 c = rw c.refused.ensures (run_stopped c.requires.sound _ _ _ _ _ c.front.ensures _ c.load-loaded.ensures c.if-answer-lt-ANSWER.false c.if-loaded-ne0.true)

pub refused-requires : goal.refused-requires
refused-requires c = omega (arith, c.load-loaded.ensures.line_most)

pub returns : goal.returns
returns c = run_answered c.requires.sound _ _ _ _ _ c.front.ensures _ c.load-loaded.ensures c.if-answer-lt-ANSWER.false {ran = c.dry_run.result} c.if-loaded-ne0.false c.dry_run.ensures c.write_answer.ensures
