use native.Mathlib.Omega.{arith}
use Prim.Native.Nat.{◌-◌}
use Rattle.environments.specs.Kept.{frames_of}
use Rattle.environments.proofs.Stacking.{stacked_length}
use Rattle.environments.proofs.Keeping.{kept_less}
use Rattle.environments.proofs.Frames.pop.Goals as goal

pub overflow_sub-self : goal.overflow_sub-self
overflow_sub-self c = let s = c.self.inside in omega (arith, stacked_length (frames_of s.frames) s.depth, rw (← c.self.view_is) at c.requires)

pub returns : goal.returns
returns c = let s = c.self.inside in (
  rw (← c.self.view_is) (kept_less s.frames s.depth (omega (arith, stacked_length (frames_of s.frames) s.depth, rw (← c.self.view_is) at c.requires)) c.from.ensures),
  omega (arith, stacked_length (frames_of s.frames) (s.depth - 1), c.self.invariant),
)
