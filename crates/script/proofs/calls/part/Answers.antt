-- Byte by byte, as far as there are bytes and room.
use native.Mathlib.Omega.{arith}
use mathlib.Core.Path.{◌≡◌}
use Rattle.script.proofs.Restarting.{part_byte, part_end}
use Rattle.script.proofs.calls.part.Goals as goal

pub loop-i-preserved : goal.loop-i-preserved
loop-i-preserved c = part_byte _ _ _ c.loop-i.invariant _ c.unblanked.ensures (omega (arith, c.min-size.ensures)) (omega (arith, c.min-size.ensures))

pub returns : goal.returns
returns c =
    let last : c.loop-i.i ≡ c.min-size.result = omega arith in
    part_end _ _ _ (rw last at c.loop-i.invariant) _ (omega arith) c.min-size.ensures
