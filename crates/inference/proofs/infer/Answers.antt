-- Each exit of `infer` is one answer.
use native.Mathlib.Omega.{arith}
use mathlib.Core.Path.{refl}
use Rattle.inference.proofs.Judging.{short_refused, judged_refused, report_written}
use Rattle.inference.proofs.infer.Goals as goal

pub returns-then-buffer-lt-REPORT : goal.returns-then-buffer-lt-REPORT
returns-then-buffer-lt-REPORT c = (short_refused _ _ _ c.if-buffer-lt-REPORT.true refl, omega arith)

pub returns-in-Ok : goal.returns-in-Ok
returns-in-Ok c = (report_written _ _ _ c.if-buffer-lt-REPORT.false c.in-Ok.ensures _ _ _ _ _ refl refl refl c.write.ensures, tt)

pub returns-in-Err : goal.returns-in-Err
returns-in-Err c = let refuses = c.refusal_of.ensures _ c.in-Err.ensures in
    (judged_refused _ _ _ c.if-buffer-lt-REPORT.false refuses, omega (arith, refuses.0))
