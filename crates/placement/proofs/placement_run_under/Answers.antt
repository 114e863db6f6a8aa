-- A short answer, a refused file, or what is returned under the file's table.
use Prim.Native.Nat.{◌*◌}
use native.Mathlib.Omega.{arith}
use mathlib.Core.Path.{◌≡◌}
use Rattle.dryrun.specs.Entry.{RunReturnsUnder}
use Rattle.placement.proofs.Exits.{run_file_refused, run_file_accepted}
use Rattle.placement.proofs.placement_run_under.Goals as goal

pub returns-then-answer-lt-ANSWER : goal.returns-then-answer-lt-ANSWER
returns-then-answer-lt-ANSWER c = RunReturnsUnder.short c.if-answer-lt-ANSWER.true

pub returns-then-under-ne0 : goal.returns-then-under-ne0
returns-then-under-ne0 c = let is : c.refused.result ≡ c.open-under.result.number * 1000 = omega (arith, c.refused.ensures) in
    rw is (run_file_refused _ _ _ _ _ _ c.open-under.ensures c.if-under-ne0.true c.if-answer-lt-ANSWER.false)

pub returns : goal.returns
returns c = run_file_accepted _ _ _ _ _ _ c.open-under.ensures c.if-under-ne0.false c.run_text.ensures
