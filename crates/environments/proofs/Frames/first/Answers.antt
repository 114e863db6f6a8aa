use native.Mathlib.Omega.{arith}
use mathlib.Core.Path.{◌∙◌}
use Rattle.environments.specs.Frames.{stacked}
use Rattle.environments.proofs.Stacking.{first_more, first_within}
use Rattle.environments.proofs.Frames.first.Goals as goal

pub loop-frame-init : goal.loop-frame-init
unfolding stacked
loop-frame-init c = c.empty-first.ensures

pub push-requires : goal.push-requires
push-requires c = omega (arith, first_within _ c.args.frames c.loop-frame.frame-index c.loop-frame.invariant c.loop-frame-test.true)

pub loop-frame-preserved : goal.loop-frame-preserved
loop-frame-preserved c = c.push.ensures ∙ first_more _ c.args.frames c.loop-frame.frame-index c.loop-frame.invariant c.loop-frame-test.true
