-- The front of the file is opened; a refused one leaves the table.
use native.Mathlib.Omega.{arith}
use mathlib.Core.Path.{refl}
use lib.ListN.{length-take}
use Rattle.script.proofs.Restarting.{refused_left, accepted_left}
use Rattle.script.proofs.calls.restart.Goals as goal

pub slice_bounds-open-end : goal.slice_bounds-open-end
slice_bounds-open-end c = simp length-take (omega (arith, c.part-size.ensures.fits))

pub returns-then-opened-ne0 : goal.returns-then-opened-ne0
returns-then-opened-ne0 c = refused_left _ c.requires _ _ _ refl _ c.part-size.ensures _ c.open-opened.ensures c.if-opened-ne0.true

pub returns : goal.returns
returns c = accepted_left _ c.requires _ _ _ refl _ c.part-size.ensures _ c.open-opened.ensures c.if-opened-ne0.false
