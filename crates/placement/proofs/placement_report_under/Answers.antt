-- A short buffer, a refused file, or what is returned under the file's table.
use Prim.Native.Nat.{◌*◌}
use native.Mathlib.Omega.{arith}
use mathlib.Core.Path.{◌≡◌}
use Rattle.model.specs.Text.{ReturnsUnder}
use Rattle.placement.proofs.Exits.{file_refused, file_accepted}
use Rattle.placement.proofs.placement_report_under.Goals as goal

pub returns-then-buffer-lt-REPORT : goal.returns-then-buffer-lt-REPORT
returns-then-buffer-lt-REPORT c = ReturnsUnder.short c.if-buffer-lt-REPORT.true

pub returns-then-opened-ne0 : goal.returns-then-opened-ne0
returns-then-opened-ne0 c = let is : c.refused.result ≡ c.open-opened.result.number * 1000 = omega (arith, c.refused.ensures) in
    rw is (file_refused _ _ _ _ c.open-opened.ensures c.if-opened-ne0.true c.if-buffer-lt-REPORT.false)

pub returns : goal.returns
returns c = file_accepted _ _ _ _ c.open-opened.ensures c.if-opened-ne0.false c.report.ensures
