-- The four answers, and the bounds that their sums need.
use native.Mathlib.Omega.{arith}
use mathlib.Core.Path.{refl}
use Rattle.model.specs.Text.{Returns}
use Rattle.placement.proofs.Exits.{add_returned, bounded, inference_returned, report_returned}
use Rattle.placement.proofs.report.Goals as goal

pub returns-then-buffer-lt-REPORT : goal.returns-then-buffer-lt-REPORT
returns-then-buffer-lt-REPORT c = Returns.short c.if-buffer-lt-REPORT.true

pub returns-then-loaded-ne0 : goal.returns-then-loaded-ne0
returns-then-loaded-ne0 c = rw c.refused.ensures (add_returned c.requires.sound _ _ _ c.front.ensures _ c.load-loaded.ensures c.if-loaded-ne0.true c.if-buffer-lt-REPORT.false)

pub refused-requires : goal.refused-requires
refused-requires c = omega (arith, c.load-loaded.ensures.line_most)

pub refused-requires-in-Err : goal.refused-requires-in-Err
refused-requires-in-Err c = omega (arith, (bounded _ _ _ _ _ c.load-loaded.ensures c.in-Err.ensures.0).1)

pub returns-in-Err : goal.returns-in-Err
returns-in-Err c = rw c.refused-in-Err.ensures (inference_returned c.requires.sound _ _ _ c.front.ensures _ c.load-loaded.ensures _ c.in-Err.ensures.0 c.if-loaded-ne0.false c.if-buffer-lt-REPORT.false
    (omega (arith, c.in-Err.ensures.1)))

pub overflow_cast-result : goal.overflow_cast-result
overflow_cast-result c = omega (arith, (bounded _ _ _ _ _ c.load-loaded.ensures c.in-Ok.ensures.0).2)

pub overflow_add-result : goal.overflow_add-result
overflow_add-result c = omega (arith, (bounded _ _ _ _ _ c.load-loaded.ensures c.in-Ok.ensures.0).2)

pub returns-in-Ok : goal.returns-in-Ok
returns-in-Ok c = report_returned c.requires.sound _ _ _ c.front.ensures _ c.load-loaded.ensures _ c.in-Ok.ensures.0 c.if-loaded-ne0.false c.if-buffer-lt-REPORT.false refl
