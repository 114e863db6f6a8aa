use native.Mathlib.Omega.{arith}
use Rattle.evaluator.specs.Evaluation.{at_end, not_yet}
use Rattle.evaluator.proofs.Ending.{no_frames, no_value}
use Rattle.evaluator.proofs.over.Goals as goal

pub returns-in-Datum : goal.returns-in-Datum
returns-in-Datum c = rw c.from.ensures (at_end c.in-Datum.is (no_frames c.args.frames.now (omega (arith, c.len.ensures.0, c.if-len-eq0.true))))

pub returns-in_default : goal.returns-in_default
returns-in_default c = not_yet (λ v at. omega (arith, c.len.ensures.0, c.if-len-eq0.false))

pub returns-in_default-2 : goal.returns-in_default-2
returns-in_default-2 c = not_yet (λ v at. no_value c.in_default.is at)
