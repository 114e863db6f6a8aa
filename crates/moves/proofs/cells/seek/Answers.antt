use Prim.Native.Nat.{◌-◌}
use native.Mathlib.Omega.{arith}
use mathlib.Core.Path.{◌≡◌}
use Rattle.moves.specs.Moves.{nowhere}
use Rattle.moves.proofs.Seeking.{sought_here, sought_past}
use Rattle.moves.proofs.cells.seek.Goals as goal

pub loop-at-init : goal.loop-at-init
loop-at-init c = (omega arith, λ r h. h)

pub returns-then-cell-x : goal.returns-then-cell-x
returns-then-cell-x c = (omega arith, c.loop-at.invariant.1 _ (sought_here c.args.cells.now c.args.x c.loop-at.at (omega arith) c.if-cell-x.true))

pub loop-at-smaller : goal.loop-at-smaller
loop-at-smaller c = omega (arith, c.requires.1.links (c.loop-at.at - 1) (omega arith))

pub loop-at-preserved : goal.loop-at-preserved
loop-at-preserved c = (
  omega (arith, c.requires.1.links (c.loop-at.at - 1) (omega arith)),
  λ r h. c.loop-at.invariant.1 r (sought_past c.args.cells.now c.args.x c.loop-at.at r (omega arith) c.if-cell-x.false h),
)

pub returns : goal.returns
returns c = let zero : c.loop-at.at ≡ 0 = omega arith in
    (omega arith, c.loop-at.invariant.1 0 (rw zero nowhere))
