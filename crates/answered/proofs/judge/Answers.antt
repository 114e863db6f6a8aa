-- The buffer is long enough, so that what infer answers is what is judged.
use native.Mathlib.Omega.{arith}
use lib.ListN.{length-replicate}
use Rattle.answered.proofs.Judgements.{judged_by}
use Rattle.answered.proofs.judge.Goals as goal

pub returns-in-Ok : goal.returns-in-Ok
returns-in-Ok c = judged_by (simp length-replicate (omega arith)) c.in-Ok.ensures.0

pub returns-in-Err : goal.returns-in-Err
returns-in-Err c = judged_by (simp length-replicate (omega arith)) c.in-Err.ensures.0
